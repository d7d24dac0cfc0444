-- A founding's bytes, over plain variables: zeros, then the header, then one row after another.
use mathlib.Core.Path.{◌≡◌, refl, sym, ◌∙◌, ap, ap₂}
use mathlib.Core.Bool.{cond}
use mathlib.Core.List.{List, [], ◌∷◌, ◌++◌, append_assoc, append-nil}
use Prim.Native.Nat.{ℕ, suc, ◌+◌, ◌-◌, ◌*◌, ◌%◌, ◌^◌, ◌≤◌, ◌<◌}
use native.Mathlib.Nat.{add-zero, zero-mul, suc-mul, sub-zero, lt_of_lt_of_le}
use native.Mathlib.Numerals.{add-one}
use native.Mathlib.Omega.{arith}
use lib.Dec.{eqb}
use lib.Pow.{pow_mono, ones_lt}
use lib.ListN.{length, get_or, take, drop, length-append}
use lib.Seq.{take_at, drop_at, take_all, take-suc, length-take-le}
use Rattle.sets.specs.Sets.{has, first_rows}
use Rattle.sets.proofs.SetLaws.{has_first, same-members}
use Rattle.octets.specs.Bytes.{bytes_of, put, zeros}
use Rattle.fields.specs.Layout.{store, form, form_value, body_length, stride, capacity, used, first, file_length, file_count, name, link, county, members, grid_mark, store_list}
use Rattle.octets.proofs.ByteLaws.{length-put, length-zeros, split-zeros, bytes-zero}
use Rattle.octets.proofs.CodeLaws.{part_length, part-back}
use Rattle.fields.specs.declared.Laid.{Laid}
use Rattle.counties.specs.Counties.{county_at}
use Rattle.protocol.specs.Calls.{founded_header, founded_row, founded_rows, founded_list, founded}
use Rattle.protocol.proofs.FoundedLaws.{length-header, length-rows}

-- ---- the header and a row, stored into zeros
header-computed : (c n files file : ℕ) (l : List ℕ) → c % 256 ≡ c → n % 256 ≡ n
    → store file_count files (store file_length file (store first 1 (store used n (store capacity c (store form form_value (zeros 16 ++ l)))))) ≡ founded_header c n files file ++ l
unfolding store put bytes_of zeros founded_header form form_value capacity used first file_length file_count
header-computed c n files file l e-c e-n = ap₂ (λ (x y : ℕ). form_value ∷ x ∷ y ∷ 1 ∷ (bytes_of 2 file ++ (bytes_of 1 files ++ (zeros 9 ++ l)))) e-c e-n

pub header-stored : (c n files file rest : ℕ) → c < 256 → n < 256
    → store file_count files (store file_length file (store first 1 (store used n (store capacity c (store form form_value (zeros (16 + rest))))))) ≡ founded_header c n files file ++ zeros rest
header-stored c n files file rest hc hn =
    ap (λ (l : List ℕ). store file_count files (store file_length file (store first 1 (store used n (store capacity c (store form form_value l)))))) (split-zeros 16 rest) ∙ header-computed c n files file (zeros rest) (omega arith) (omega arith)

row-computed : (n : ℕ) (all : Laid) (body i x l y : ℕ) → l % 256 ≡ l → y % 256 ≡ y → l ≡ cond (eqb i n) 0 (i + 1)
    → store_list all (store county y (store link l (store name x (zeros 32 ++ zeros body)))) ≡ founded_row n all body i x y
unfolding store_list store put bytes_of zeros founded_row name link county members grid_mark
row-computed n all body i x l y small low e =
    ap₂ (λ (m z : ℕ). bytes_of 2 x ++ (m ∷ (zeros 13 ++ (bytes_of 8 all.members ++ (bytes_of 1 all.mark ++ (0 ∷ z ∷ (zeros 5 ++ zeros body))))))) (small ∙ e) low

pub row-stored : (n : ℕ) (all : Laid) (body i x l y : ℕ) → l < 256 → y < 256 → l ≡ cond (eqb i n) 0 (i + 1)
    → store_list all (store county y (store link l (store name x (zeros (32 + body))))) ≡ founded_row n all body i x y
row-stored n all body i x l y small low e =
    ap (λ (w : List ℕ). store_list all (store county y (store link l (store name x w)))) (split-zeros 32 body) ∙ row-computed n all body i x l y (omega arith) (omega arith) e

-- the list of all used rows
pub all-rows : (n bits : ℕ) → n ≤ 64 → bits < 2 ^ 64 → has bits ≡ first_rows n → bits ≡ 2 ^ n - 1
all-rows n bits few h e = same-members bits (2 ^ n - 1) h (lt_of_lt_of_le (ones_lt n) (pow_mono few)) (e ∙ sym (has_first n few))

-- ---- one row more
rows_more : (n : ℕ) (all : Laid) (body : ℕ) (places : ℕ → ℕ) (i : ℕ) (xs : List ℕ) (x : ℕ)
    → founded_rows n all body places i (xs ++ (x ∷ [])) ≡ founded_rows n all body places i xs ++ founded_row n all body (i + length xs) x (places (i + length xs))
unfolding founded_rows
rows_more n all body places i [] x = append-nil (founded_row n all body i x (places i)) ∙ ap (λ (j : ℕ). founded_row n all body j x (places j)) (sym (add-zero i))
rows_more n all body places i (y ∷ xs) x =
    let e : suc i + length xs ≡ i + suc (length xs) = omega arith in
    let row = founded_row n all body i y (places i) in
    let rest = founded_rows n all body places (suc i) xs in
    ap (λ (l : List ℕ). row ++ l) (rows_more n all body places (suc i) xs x ∙ ap (λ (j : ℕ). rest ++ founded_row n all body j x (places j)) e)
    ∙ sym (append_assoc row rest (founded_row n all body (i + suc (length xs)) x (places (i + suc (length xs)))))

-- ---- a middle part lent and back
module _ (a z b : List ℕ) (at size : ℕ) (la : length a ≡ at) (lz : length z ≡ size) where
  cut : (at + size) - at ≡ size
  cut = omega arith

  middle : take ((at + size) - at) (drop at (a ++ (z ++ b))) ≡ z
  middle = rw (cut, drop_at a (z ++ b) at la) (take_at z b size lz)

  middle-back : (new : List ℕ) → take at (a ++ (z ++ b)) ++ (new ++ drop ((at + size) - at) (drop at (a ++ (z ++ b)))) ≡ a ++ (new ++ b)
  middle-back new = rw (cut, take_at a (z ++ b) at la, drop_at a (z ++ b) at la, drop_at z b size lz)

-- ---- the header and the first k rows stand, the rest is 0
pub record LaidOut (c n : ℕ) (all : Laid) (files file body : ℕ) (names : List ℕ) (places : ℕ → ℕ) (k at : ℕ) (t : List ℕ) : Type 0 where
  pub place : at ≡ 16 + k * (32 + body)
  pub bytes : t ≡ founded_header c n files file ++ (founded_rows n all body places 1 (take k names) ++ zeros ((c - k) * (32 + body)))

module _ (c n : ℕ) (all : Laid) (files file : ℕ) (names : List ℕ) (places : ℕ → ℕ) where
  -- the table cleared, then the header stored
  pub none-laid : (body at : ℕ) (t cleared new : List ℕ) → at ≡ 16 → length t ≡ 16 + c * (32 + body) → c ≤ 64 → n ≤ 64 → cleared ≡ bytes_of (length t) 0
      → new ≡ store file_count files (store file_length file (store first 1 (store used n (store capacity c (store form form_value cleared))))) → LaidOut c n all files file body names places 0 at new
  unfolding founded_rows
  none-laid body at t cleared new e long hc hn clear made = record {
    place = omega (arith, zero-mul (32 + body));
    bytes = made
        ∙ ap (λ (l : List ℕ). store file_count files (store file_length file (store first 1 (store used n (store capacity c (store form form_value l)))))) (clear ∙ bytes-zero (length t) ∙ ap zeros long)
        ∙ header-stored c n files file (c * (32 + body)) (omega arith) (omega arith)
        ∙ ap (λ (m : ℕ). founded_header c n files file ++ zeros (m * (32 + body))) (sym (sub-zero c));
  }

  pub all_laid : (choice k at : ℕ) (t counties : List ℕ) → places ≡ county_at counties → all ≡ founded_list choice counties n → n ≡ length names → k ≡ length names
      → LaidOut c n all files file (body_length files file) names places k at t → t ≡ founded choice c files file names counties
  unfolding founded stride
  all_laid choice k at t counties e-places e-all e-n e l =
      l.bytes
      ∙ ap (λ (m : ℕ). founded_header c n files file ++ (founded_rows n all (body_length files file) places 1 (take k names) ++ zeros ((c - m) * stride files file))) e
      ∙ ap (λ (xs : List ℕ). founded_header c n files file ++ (founded_rows n all (body_length files file) places 1 xs ++ zeros ((c - length names) * stride files file))) (take_all k names (omega arith))
      ∙ ap₂ (λ (a : Laid) (y : ℕ → ℕ). founded_header c n files file ++ (founded_rows n a (body_length files file) y 1 names ++ zeros ((c - length names) * stride files file))) e-all e-places
      ∙ ap (λ (m : ℕ). founded_header c m files file ++ (founded_rows m (founded_list choice counties m) (body_length files file) (county_at counties) 1 names ++ zeros ((c - length names) * stride files file))) e-n

-- what the code knows in the turn of row k + 1
pub record Turn (c n : ℕ) (all : Laid) (files file body : ℕ) (names : List ℕ) (places : ℕ → ℕ) (k at size : ℕ) (t : List ℕ) : Type 0 where
  pub room : length names ≤ c
  pub below : k < length names
  pub wide : size ≡ 32 + body
  pub laid : LaidOut c n all files file body names places k at t

module _ {c n : ℕ} {all : Laid} {files file body : ℕ} {names : List ℕ} {places : ℕ → ℕ} {k at size : ℕ} {t : List ℕ} (w : Turn c n all files file body names places k at size t) where
  done : List ℕ
  done = founded_header c n files file ++ founded_rows n all body places 1 (take k names)

  rest : List ℕ
  rest = zeros ((c - suc k) * (32 + body))

  done-long : length done ≡ at
  unfolding done
  done-long =
      length-append (founded_header c n files file) (founded_rows n all body places 1 (take k names))
      ∙ ap₂ (λ (x y : ℕ). x + y) (length-header c n files file) (length-rows n all body places 1 (take k names) ∙ ap (λ (m : ℕ). m * (32 + body)) (length-take-le k names (omega arith)))
      ∙ sym w.laid.place

  zeros-long : length (zeros (32 + body)) ≡ size
  zeros-long = length-zeros (32 + body) ∙ sym w.wide

  so_far : t ≡ done ++ (zeros (32 + body) ++ rest)
  unfolding done rest
  so_far =
      let one : c - k ≡ suc (c - suc k) = omega arith in
      let e : (c - k) * (32 + body) ≡ (32 + body) + (c - suc k) * (32 + body) = ap (λ (m : ℕ). m * (32 + body)) one ∙ omega (arith, suc-mul (c - suc k) (32 + body)) in
      w.laid.bytes
      ∙ ap (λ (z : List ℕ). founded_header c n files file ++ (founded_rows n all body places 1 (take k names) ++ z)) (ap zeros e ∙ split-zeros (32 + body) ((c - suc k) * (32 + body)))
      ∙ sym (append_assoc (founded_header c n files file) (founded_rows n all body places 1 (take k names)) (zeros (32 + body) ++ zeros ((c - suc k) * (32 + body))))

  pub laid-fits : at + size ≤ length t
  laid-fits = omega (arith, ap length so_far, length-append done (zeros (32 + body) ++ rest), length-append (zeros (32 + body)) rest, done-long, zeros-long)

  pub lent-zeros : take ((at + size) - at) (drop at t) ≡ zeros (32 + body)
  lent-zeros = ap (λ (u : List ℕ). take ((at + size) - at) (drop at u)) so_far ∙ middle done (zeros (32 + body)) rest at size done-long zeros-long

  pub laid-long : (new : List ℕ) → length new ≡ length (take ((at + size) - at) (drop at t)) → length (take at t ++ (new ++ drop ((at + size) - at) (drop at t))) ≡ length t
  laid-long new e =
      let long : length new ≡ size = e ∙ part_length at size t laid-fits in
      ap length (part-back at size t new new refl long) ∙ length-put t at new (omega (arith, long, laid-fits))

  laid_more : (new : List ℕ) → new ≡ founded_row n all body (k + 1) (get_or names k 0) (places (k + 1))
      → LaidOut c n all files file body names places (k + 1) (at + size) (take at t ++ (new ++ drop ((at + size) - at) (drop at t)))
  unfolding done rest
  laid_more new e = record {
    place = omega (arith, w.laid.place, w.wide, ap (λ (m : ℕ). m * (32 + body)) (add-one k), suc-mul k (32 + body));
    bytes = ap (λ (u : List ℕ). take at u ++ (new ++ drop ((at + size) - at) (drop at u))) so_far
        ∙ middle-back done (zeros (32 + body)) rest at size done-long zeros-long new
        ∙ append_assoc (founded_header c n files file) (founded_rows n all body places 1 (take k names)) (new ++ zeros ((c - suc k) * (32 + body)))
        ∙ ap (λ (x : List ℕ). founded_header c n files file ++ x) (sym (append_assoc (founded_rows n all body places 1 (take k names)) new (zeros ((c - suc k) * (32 + body)))))
        ∙ ap₂ (λ (x : List ℕ) (m : ℕ). founded_header c n files file ++ (x ++ zeros ((c - m) * (32 + body)))) more (sym (add-one k));
  }
    where
      more : founded_rows n all body places 1 (take k names) ++ new ≡ founded_rows n all body places 1 (take (k + 1) names)
      more =
          let j : 1 + length (take k names) ≡ k + 1 = omega (arith, length-take-le k names (omega arith)) in
          ap (λ (x : List ℕ). founded_rows n all body places 1 (take k names) ++ x) (e ∙ ap (λ (i : ℕ). founded_row n all body i (get_or names k 0) (places i)) (sym j))
          ∙ sym (rows_more n all body places 1 (take k names) (get_or names k 0)) ∙ ap (founded_rows n all body places 1) (sym (ap (λ (i : ℕ). take i names) (add-one k) ∙ take-suc names k 0 w.below))

  pub laid-turn : (new : List ℕ) (x next y : ℕ) → new ≡ store_list all (store county y (store link next (store name x (take ((at + size) - at) (drop at t)))))
      → x ≡ get_or names k 0 → y ≡ places (k + 1) → next < 256 → y < 256 → next ≡ cond (eqb (k + 1) n) 0 (k + 1 + 1)
      → LaidOut c n all files file body names places (k + 1) (at + size) (take at t ++ (new ++ drop ((at + size) - at) (drop at t)))
  laid-turn new x next y made e-x e-y small low e-next = laid_more new
      (made ∙ ap (λ (row : List ℕ). store_list all (store county y (store link next (store name x row)))) lent-zeros
      ∙ row-stored n all body (k + 1) x next y small low e-next ∙ ap₂ (founded_row n all body (k + 1)) e-x e-y)
