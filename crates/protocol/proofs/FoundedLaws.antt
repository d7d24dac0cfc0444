-- What a founded table says: its header, each row, the chain; and that it is well formed, whatever lay in the table before.
use mathlib.Core.Path.{◌≡◌, refl, sym, ◌∙◌, ap, ap₂, subst, fun_ext}
use mathlib.Core.Bool.{Bool, true, false, cond, ◌&&◌}
use mathlib.Core.List.{List, [], ◌∷◌, ◌++◌, append_assoc}
use Prim.Native.Nat.{ℕ, zero, suc, ◌+◌, ◌-◌, ◌*◌, ◌%◌, ◌^◌, ◌≤◌, ◌<◌}
use native.Mathlib.Nat.{add-mul, suc-mul, zero-mul, lt_of_lt_of_le, le_of_suc-le-suc, not-suc-le-zero}
use native.Mathlib.Numerals.{one-add}
use native.Mathlib.Decide.{ℕ_discrete}
use native.Mathlib.Omega.{arith}
use lib.Dec.{eqb, leb, ltb}
use lib.Pow.{pow_mono, ones_lt}
use lib.ListN.{length, get_or, take, drop, length-append}
use lib.Seq.{take_at, drop_at, drop-drop}
use borrow.Author.Tests.{eqb-true, eq-eqb, ne_eqb, lt-ltb, ltb-true, le-leb, leb-true}
use Rattle.sets.specs.Upto.{Within, every, count, upward, rises_from}
use Rattle.sets.specs.Sets.{has}
use Rattle.bools.proofs.BoolLaws.{and_l, and_r, and_i}
use Rattle.sets.proofs.UptoLaws.{every-at, every_of}
use Rattle.sets.proofs.SetLaws.{has_all_lem}
use Rattle.sets.proofs.CountLaws.{count-one}
use Rattle.sets.proofs.RisingLaws.{upward-length, upward-among}
use Rattle.octets.specs.Bytes.{number, bytes_of, part, zeros, all_zero}
use Rattle.blocks.specs.Blocks.{block}
use Rattle.fields.specs.declared.Laid.{Laid}
use Rattle.fields.specs.Layout.{is_tall, get, form, form_value, capacity, used, first, file_length, file_count, rest_in, name, link, epoch, members, grid_mark, county, list, reserved, body_length, stride, copy_in, copy_bytes, form_of, row_length, rows_end, row_bytes, capacity_of, used_of, first_of, file_length_of, files_of, name_of, link_of, list_of, county_of}
use Rattle.linking.specs.Linking.{chain}
use Rattle.table.specs.WellFormed.{between, is_county, limit, header_values, length_right, visits_each, names_rise, unused_zero}
use Rattle.octets.proofs.ByteLaws.{length-bytes, number-bytes, length-zeros, zeros-zero}
use Rattle.fields.proofs.FieldLaws.{row-newest, files-newest, BlankCopy, zero-copies, blank-copy, list-is}
use Rattle.table.proofs.FormLaws.{between_is, is-between, HeadFacts, blank-facts, Formed}
use Rattle.table.proofs.CountyLaws.{county-at}
use Rattle.counties.specs.Counties.{county_at, several}
use Rattle.counties.specs.Marks.{mark_now, laid_now, mark_right}
use Rattle.counties.specs.Claims.{LaidMarks}
use Rattle.counties.proofs.MarkLaws.{mark-small, laid-marks}
use Rattle.protocol.specs.Calls
use Rattle.asking.specs.Asking.{first_no}
use Rattle.asking.proofs.AskingLaws.{yes-first}
use Rattle.protocol.proofs.QuestionLaws.{county-is}

-- what the founding's questions settle
pub record Founds (a : Calls.Founding) : Type 0 where
  pub some : 1 ≤ length (Calls.names_in a.names)
  pub room : length (Calls.names_in a.names) ≤ a.capacity
  pub most : a.capacity ≤ 64
  pub bytes : Within 4_096 a.file_length
  pub group : Within 8 a.files
  pub rising : Calls.names_rising 0 (Calls.names_in a.names) ≡ true
  pub places : length a.counties ≡ length (Calls.names_in a.names)
  pub placed : (i : ℕ) → Within (length (Calls.names_in a.names)) i → Within 8 (county_at a.counties i)

pub founds-of : (t : List ℕ) (a : Calls.Founding) → first_no (Calls.questions t (Calls.founding a)) ≡ 0 → Founds a
unfolding Calls.questions
founds-of t a h =
    let x = yes-first 10 (eqb (length a.names % 2) 0 && between 1 (length (Calls.names_in a.names)) 64 && Calls.names_rising 0 (Calls.names_in a.names) && leb a.choice 1) _ h in
    let b = yes-first 11 (between 1 a.capacity 64 && leb (length (Calls.names_in a.names)) a.capacity && between 1 a.file_length 4_096 && between 1 a.files 8 && eqb (length t) (16 + a.capacity * stride a.files a.file_length)) _ x.1 in
    let d = yes-first 19 (eqb (length a.counties) (length (Calls.names_in a.names)) && every (length (Calls.names_in a.names)) (λ i. is_county (county_at a.counties i))) _ b.1 in
    let a0 = and_l (eqb (length a.names % 2) 0 && between 1 (length (Calls.names_in a.names)) 64 && Calls.names_rising 0 (Calls.names_in a.names)) _ x.0 in
    let a1 = and_l (eqb (length a.names % 2) 0 && between 1 (length (Calls.names_in a.names)) 64) _ a0 in
    let b0 = and_l (between 1 a.capacity 64 && leb (length (Calls.names_in a.names)) a.capacity && between 1 a.file_length 4_096 && between 1 a.files 8) _ b.0 in
    let b1 = and_l (between 1 a.capacity 64 && leb (length (Calls.names_in a.names)) a.capacity && between 1 a.file_length 4_096) _ b0 in
    let b2 = and_l (between 1 a.capacity 64 && leb (length (Calls.names_in a.names)) a.capacity) _ b1 in
    record {
      some = (between_is 1 (length (Calls.names_in a.names)) 64 (and_r (eqb (length a.names % 2) 0) _ a1)).0;
      room = leb-true _ _ (and_r (between 1 a.capacity 64) _ b2);
      most = (between_is 1 a.capacity 64 (and_l _ _ b2)).1;
      bytes = between_is 1 a.file_length 4_096 (and_r (between 1 a.capacity 64 && leb (length (Calls.names_in a.names)) a.capacity) _ b1);
      group = between_is 1 a.files 8 (and_r (between 1 a.capacity 64 && leb (length (Calls.names_in a.names)) a.capacity && between 1 a.file_length 4_096) _ b0);
      rising = and_r (eqb (length a.names % 2) 0 && between 1 (length (Calls.names_in a.names)) 64) _ a0;
      places = eqb-true _ _ (and_l _ _ d.0);
      placed = λ i w. county-is (county_at a.counties i) (every-at (length (Calls.names_in a.names)) _ (and_r (eqb (length a.counties) (length (Calls.names_in a.names))) _ d.0) i w);
    }

-- ---- the pieces
pub length-header : (c n files file : ℕ) → length (Calls.founded_header c n files file) ≡ 16
unfolding Calls.founded_header zeros bytes_of
length-header c n files file = refl

length-row : (n : ℕ) (all : Laid) (body i x y : ℕ) → length (Calls.founded_row n all body i x y) ≡ 32 + body
unfolding Calls.founded_row
length-row n all body i x y = simp (length-append, length-bytes, length-zeros) (omega arith)

pub length-rows : (n : ℕ) (all : Laid) (body : ℕ) (county : ℕ → ℕ) (i : ℕ) (l : List ℕ) → length (Calls.founded_rows n all body county i l) ≡ length l * (32 + body)
unfolding Calls.founded_rows
length-rows n all body county i [] = sym (zero-mul (32 + body))
length-rows n all body county i (x ∷ l) =
    length-append (Calls.founded_row n all body i x (county i)) _ ∙ ap₂ (λ (a b : ℕ). a + b) (length-row n all body i x (county i)) (length-rows n all body county (suc i) l) ∙ omega (arith, suc-mul (length l) (32 + body))

-- the rows one after another: row i + k
rows_at : (n : ℕ) (all : Laid) (body : ℕ) (county : ℕ → ℕ) (l : List ℕ) (i k : ℕ) (tail : List ℕ) → k < length l
    → part (k * (32 + body)) (32 + body) (Calls.founded_rows n all body county i l ++ tail) ≡ Calls.founded_row n all body (i + k) (get_or l k 0) (county (i + k))
unfolding Calls.founded_rows part
rows_at n all body county [] i k tail h = absurd (not-suc-le-zero h)
rows_at n all body county (x ∷ l) i zero tail h =
    let row = Calls.founded_row n all body i x (county i) in
    let z : 0 * (32 + body) ≡ 0 = zero-mul (32 + body) in
    let q : i + 0 ≡ i = omega arith in
    rw (z, q, append_assoc row (Calls.founded_rows n all body county (suc i) l) tail) (take_at row _ (32 + body) (length-row n all body i x (county i)))
rows_at n all body county (x ∷ l) i (suc k) tail h =
    let row = Calls.founded_row n all body i x (county i) in
    let rest = Calls.founded_rows n all body county (suc i) l in
    let z : suc k * (32 + body) ≡ (32 + body) + k * (32 + body) = omega (arith, suc-mul k (32 + body)) in
    let q : suc i + k ≡ i + suc k = omega arith in
    rw (
      z,
      ← (drop-drop (k * (32 + body)) (32 + body) ((row ++ rest) ++ tail)),
      append_assoc row rest tail,
      drop_at row (rest ++ tail) (32 + body) (length-row n all body i x (county i)),
    )
    (rows_at n all body county l (suc i) k tail (le_of_suc-le-suc h) ∙ ap (λ (j : ℕ). Calls.founded_row n all body j (get_or l k 0) (county j)) q)

module _ (a : Calls.Founding) (f : Founds a) where
  abbrev c : ℕ
  c = a.capacity

  abbrev file : ℕ
  file = a.file_length

  abbrev files : ℕ
  files = a.files

  abbrev body : ℕ
  body = body_length a.files a.file_length

  abbrev names : List ℕ
  names = Calls.names_in a.names

  abbrev choice : ℕ
  choice = a.choice

  abbrev counties : List ℕ
  counties = a.counties

  abbrev all : Laid
  all = Calls.founded_list a.choice a.counties (length (Calls.names_in a.names))

  n : ℕ
  n = length names

  t : List ℕ
  t = Calls.founded choice c files file names counties

  tail : List ℕ
  tail = zeros ((c - length names) * stride files file)

  rows : List ℕ
  rows = Calls.founded_rows (length names) all body (county_at counties) 1 names

  after-header : drop 16 t ≡ rows ++ tail
  unfolding t rows tail Calls.founded n
  after-header = drop_at (Calls.founded_header c (length names) files file) _ 16 (length-header c (length names) files file)

  -- ---- the header
  pub founded-capacity : capacity_of (Calls.founded choice c files file names counties) ≡ c
  unfolding Calls.founded Calls.founded_header capacity_of get capacity part number bytes_of zeros
  founded-capacity = omega arith

  pub founded-used : used_of (Calls.founded choice c files file names counties) ≡ length names
  unfolding Calls.founded Calls.founded_header used_of get used part number bytes_of zeros
  founded-used = omega arith

  pub founded-first : first_of (Calls.founded choice c files file names counties) ≡ 1
  unfolding Calls.founded Calls.founded_header first_of get first part number bytes_of zeros
  founded-first = refl

  pub founded-file : file_length_of (Calls.founded choice c files file names counties) ≡ file
  unfolding Calls.founded Calls.founded_header file_length_of get file_length part zeros bytes_of
  founded-file = number-bytes 2 file (omega (arith, f.bytes))

  header-form : form_of (Calls.founded choice c files file names counties) ≡ form_value
  unfolding Calls.founded Calls.founded_header form_of get form form_value part number bytes_of zeros
  header-form = refl

  pub founded-files : files_of (Calls.founded choice c files file names counties) ≡ files
  unfolding Calls.founded Calls.founded_header get file_count part zeros bytes_of
  founded-files = files-newest (Calls.founded choice c files file names counties) header-form ∙ number-bytes 1 files (omega (arith, f.group))

  header-rest : all_zero (rest_in form_value (Calls.founded choice c files file names counties)) ≡ true
  unfolding Calls.founded Calls.founded_header rest_in form_value part all_zero bytes_of zeros
  header-rest = refl

  founded-bytes : length (Calls.founded choice c files file names counties) ≡ 16 + c * stride files file
  unfolding Calls.founded stride
  founded-bytes = simp (length-append, length-header, length-rows, length-zeros) (omega (arith, f.room, split))
    where
      split : length names * stride files file + (c - length names) * stride files file ≡ c * stride files file
      split = sym (add-mul (length names) (c - length names) (stride files file)) ∙ ap (λ (x : ℕ). x * stride files file) (omega (arith, f.room))

  founded-length : row_length (Calls.founded choice c files file names counties) ≡ stride files file
  founded-length = row-newest (Calls.founded choice c files file names counties) header-form ∙ ap₂ stride founded-files founded-file

  founded-end : (k : ℕ) → rows_end (Calls.founded choice c files file names counties) k ≡ 16 + k * stride files file
  unfolding rows_end
  founded-end k = ap (λ (w : ℕ). 16 + k * w) founded-length

  -- ---- the rows
  pub founded-row : (k : ℕ) → k < length names → row_bytes (Calls.founded choice c files file names counties) (suc k) ≡ Calls.founded_row (length names) all body (suc k) (get_or names k 0) (county_at counties (suc k))
  unfolding row_bytes block part t rows tail stride
  founded-row k h =
      ap (λ (m : ℕ). take m (drop (16 + k * m) (Calls.founded choice c files file names counties))) founded-length
      ∙ ap (take (stride files file)) (sym (drop-drop (k * stride files file) 16 (Calls.founded choice c files file names counties)) ∙ ap (drop (k * stride files file)) after-header)
      ∙ rows_at (length names) all body (county_at counties) names 1 k (zeros ((c - length names) * stride files file)) h
      ∙ ap (λ (j : ℕ). Calls.founded_row (length names) all body j (get_or names k 0) (county_at counties j)) (one-add k)

  -- each name is one of 1 to 65,535
  named : (a : ℕ) (l : List ℕ) → Calls.names_rising a l ≡ true → (k : ℕ) → k < length l → Within 65_535 (get_or l k 0)
  unfolding Calls.names_rising
  named a [] h k q = absurd (not-suc-le-zero q)
  named a (x ∷ l) h zero q =
      let e : (ltb a x && leb x 65_535) ≡ true = and_l _ _ h in
      let low : a < x = ltb-true a x (and_l _ _ e) in
      (omega arith, leb-true x 65_535 (and_r (ltb a x) _ e))
  named a (x ∷ l) h (suc k) q = named x l (and_r (ltb a x && leb x 65_535) _ h) k (le_of_suc-le-suc q)

  few : length names ≤ 64
  few = omega (arith, f.room, f.most)

  list-fits : 2 ^ length names - 1 < 256 ^ 8
  list-fits = lt_of_lt_of_le (ones_lt (length names)) (pow_mono few)

  -- ---- one row's fields
  module _ (i x : ℕ) (w : Within (length names) i) (h : Within 65_535 x) where
    row : List ℕ
    row = Calls.founded_row (length names) all body i x (county_at counties i)

    row-name : get name (Calls.founded_row (length names) all body i x (county_at counties i)) ≡ x
    unfolding Calls.founded_row get name part zeros bytes_of
    row-name = number-bytes 2 x (omega arith)

    row-link : get link (Calls.founded_row (length names) all body i x (county_at counties i)) ≡ cond (eqb i (length names)) 0 (i + 1)
    unfolding Calls.founded_row get link part number zeros bytes_of
    row-link = omega arith

    row-members : get members (Calls.founded_row (length names) all body i x (county_at counties i)) ≡ 2 ^ length names - 1
    unfolding Calls.founded_row Calls.founded_list laid_now get members part zeros bytes_of
    row-members = number-bytes 8 (2 ^ length names - 1) list-fits

    row-grid : get grid_mark (Calls.founded_row (length names) all body i x (county_at counties i)) ≡ mark_now (eqb choice 1) (several (county_at counties) (has (2 ^ length names - 1))) (count 64 (has (2 ^ length names - 1)))
    unfolding Calls.founded_row Calls.founded_list laid_now get grid_mark part zeros bytes_of
    row-grid = number-bytes 1 _ (mark-small (eqb choice 1) (several (county_at counties) (has (2 ^ length names - 1))) (count 64 (has (2 ^ length names - 1))))

    row-county : get county (Calls.founded_row (length names) all body i x (county_at counties i)) ≡ county_at counties i
    unfolding Calls.founded_row get county part number zeros bytes_of
    row-county = omega arith

    pub row_list : list (Calls.founded_row (length names) all body i x (county_at counties i)) ≡ Calls.founded_list a.choice a.counties (length names)
    unfolding laid_now Calls.founded_list
    row_list = list-is _ _ row-members row-grid

    pub zero-epoch : get epoch (Calls.founded_row (length names) all body i x (county_at counties i)) ≡ 0
    unfolding Calls.founded_row get epoch part number zeros bytes_of
    zero-epoch = refl

    spare-zero : all_zero (reserved (Calls.founded_row (length names) all body i x (county_at counties i))) ≡ true
    unfolding Calls.founded_row reserved part all_zero zeros bytes_of
    spare-zero = refl

    row-copies : (q : ℕ) → Within files q → BlankCopy file (copy_in file q (Calls.founded_row (length names) all body i x (county_at counties i)))
    unfolding Calls.founded_row zeros bytes_of
    row-copies q v = rw (zero-copies files file (Calls.founded_row (length names) all body i x (county_at counties i)) refl q v) (blank-copy file)

    row-facts : HeadFacts (length names) i (Calls.founded_row (length names) all body i x (county_at counties i))
    unfolding limit
    row-facts = record {
      named = rw row-name h;
      linked = rw row-link (go (ℕ_discrete i (length names)));
      spare = spare-zero;
      small-epoch = rw zero-epoch (omega arith);
      only = rw row-members (ones_lt (length names));
      own = λ e. rw row-members (has_all_lem (length names) i w);
      county = rw row-county (f.placed i w);
    }
      where
        go : Dec (i ≡ length names) → cond (eqb i (length names)) 0 (i + 1) ≤ length names
        go (yes e) = rw (eq-eqb i (length names) e) (omega arith)
        go (no d) = rw (ne_eqb i (length names) d) (omega arith)

  -- ---- what row i says
  pub at_row : (P : ℕ → List ℕ → Type 0)
      → ((i x : ℕ) → Within (length names) i → Within 65_535 x → P i (Calls.founded_row (length names) all body i x (county_at counties i)))
      → (i : ℕ) → Within (length names) i → P i (row_bytes (Calls.founded choice c files file names counties) i)
  at_row P g zero w = absurd (omega arith)
  at_row P g (suc k) w = subst (P (suc k)) (sym (founded-row k (omega arith))) (g (suc k) (get_or names k 0) w (named 0 names f.rising k (omega arith)))

  pub founded-name : (i : ℕ) → Within (length names) i → name_of (Calls.founded choice c files file names counties) i ≡ get_or names (i - 1) 0
  unfolding name_of
  founded-name zero w = absurd (omega arith)
  founded-name (suc k) w =
      let z : suc k - 1 ≡ k = omega arith in
      rw z (ap (get name) (founded-row k (omega arith)) ∙ row-name (suc k) (get_or names k 0) w (named 0 names f.rising k (omega arith)))

  founded-link : (i : ℕ) → Within (length names) i → link_of (Calls.founded choice c files file names counties) i ≡ cond (eqb i (length names)) 0 (i + 1)
  unfolding link_of
  founded-link zero w = absurd (omega arith)
  founded-link (suc k) w = ap (get link) (founded-row k (omega arith)) ∙ row-link (suc k) (get_or names k 0) w (named 0 names f.rising k (omega arith))

  -- ---- the chain: rows 1, 2, .. to the last
  chain-up : (k j m : ℕ) → j + suc k ≡ length names → suc k ≤ m → chain (link_of (Calls.founded choice c files file names counties)) m (suc j) ≡ upward (suc k) (suc j)
  unfolding chain upward
  chain-up zero j zero e l = absurd (omega arith)
  chain-up zero j (suc m) e l =
      let here : link_of (Calls.founded choice c files file names counties) (suc j) ≡ 0 = founded-link (suc j) (omega arith) ∙ rw (eq-eqb (suc j) (length names) (omega arith)) in
      ap (λ (l : List ℕ). suc j ∷ l) (ap (chain (link_of (Calls.founded choice c files file names counties)) m) here ∙ stops m)
    where
      stops : (m : ℕ) → chain (link_of (Calls.founded choice c files file names counties)) m 0 ≡ []
      stops zero = refl
      stops (suc m) = refl
  chain-up (suc k) j zero e l = absurd (omega arith)
  chain-up (suc k) j (suc m) e l =
      let here : link_of (Calls.founded choice c files file names counties) (suc j) ≡ suc (suc j) =
      founded-link (suc j) (omega arith) ∙ rw (ne_eqb (suc j) (length names) (λ q. omega arith)) (omega arith) in
      ap (λ (l : List ℕ). suc j ∷ l) (ap (chain (link_of (Calls.founded choice c files file names counties)) m) here ∙ chain-up k (suc j) m (omega arith) (omega arith))

  path-is : (m : ℕ) → length names ≤ m → chain (link_of (Calls.founded choice c files file names counties)) m 1 ≡ upward (length names) 1
  path-is m l =
      let e : suc (length names - 1) ≡ length names = omega (arith, f.some) in
      chain-up (length names - 1) 0 m (omega (arith, f.some)) (omega (arith, f.some)) ∙ ap (λ (x : ℕ). upward x 1) e

  founded-path : chain (link_of (Calls.founded choice c files file names counties)) (suc (used_of (Calls.founded choice c files file names counties))) (first_of (Calls.founded choice c files file names counties)) ≡ upward (length names) 1
  founded-path = ap₂ (λ (m i : ℕ). chain (link_of (Calls.founded choice c files file names counties)) (suc m) i) founded-used founded-first ∙ path-is (suc (length names)) (omega arith)

  founded-visits : visits_each (Calls.founded choice c files file names counties) ≡ true
  unfolding visits_each
  founded-visits =
      rw (founded-path, founded-used) (and_i (eqb (length (upward (length names) 1)) (length names)) _ (eq-eqb _ _ (upward-length (length names) 1))
      (every_of (length names) _ (λ i w. upward-among (length names) 1 i ∙ rw (le-leb 1 i w.0, lt-ltb i (1 + length names) (omega arith)))))

  -- names rise along the rows from row j + 1 on as they do in the list
  rise-from : (l : List ℕ) (a j : ℕ) → Calls.names_rising a l ≡ true → ((k : ℕ) → k < length l → name_of (Calls.founded choice c files file names counties) (suc j + k) ≡ get_or l k 0)
      → rises_from a (name_of (Calls.founded choice c files file names counties)) (upward (length l) (suc j)) ≡ true
  unfolding upward rises_from Calls.names_rising
  rise-from [] a j h g = refl
  rise-from (x ∷ l) a j h g =
      let z : suc j + 0 ≡ suc j = omega arith in
      let here : name_of (Calls.founded choice c files file names counties) (suc j) ≡ x = ap (name_of (Calls.founded choice c files file names counties)) (sym z) ∙ g 0 (omega arith) in
      rw here (and_i (ltb a x) _ (and_l _ _ (and_l (ltb a x && leb x 65_535) _ h))
      (rise-from l x (suc j) (and_r (ltb a x && leb x 65_535) _ h) (λ k q.
      let s : suc (suc j) + k ≡ suc j + suc k = omega arith in ap (name_of (Calls.founded choice c files file names counties)) s ∙ g (suc k) (omega arith))))

  founded-rise : names_rise (Calls.founded choice c files file names counties) ≡ true
  unfolding names_rise
  founded-rise = rw founded-path (rise-from names 0 0 f.rising (λ k q.
      let s : 1 + k ≡ suc k = omega arith in
      let z : suc k - 1 ≡ k = omega arith in
      ap (name_of (Calls.founded choice c files file names counties)) s ∙ founded-name (suc k) (omega arith) ∙ ap (λ (m : ℕ). get_or names m 0) z))

  -- ---- the rest of question 1
  founded-header : header_values (Calls.founded choice c files file names counties) ≡ true
  unfolding header_values form_value
  founded-header = rw (
    founded-capacity,
    founded-used,
    founded-first,
    founded-file,
    founded-form,
    founded-files,
    founded-rest,
    is-between 1 form_value form_value (omega arith) (omega arith),
    is-between 1 c 64 (omega (arith, f.some, f.room)) f.most,
    is-between 1 (length names) c f.some f.room,
    is-between 1 1 (length names) (omega arith) f.some,
    is-between 1 file 4_096 f.bytes.0 f.bytes.1,
    is-between 1 files 8 f.group.0 f.group.1,
  )
    where
      founded-form : form_of (Calls.founded choice c files file names counties) ≡ form_value
      founded-form = header-form

      founded-rest : all_zero (rest_in form_value (Calls.founded choice c files file names counties)) ≡ true
      founded-rest = header-rest

  founded-tail : drop (rows_end (Calls.founded choice c files file names counties) (length names)) (Calls.founded choice c files file names counties) ≡ zeros ((c - length names) * stride files file)
  unfolding t rows tail stride
  founded-tail =
      ap (λ (a : ℕ). drop a (Calls.founded choice c files file names counties)) (founded-end (length names))
      ∙ sym (drop-drop (length names * stride files file) 16 (Calls.founded choice c files file names counties)) ∙ ap (drop (length names * stride files file)) after-header
      ∙ drop_at rows tail (length names * stride files file) (length-rows (length names) all body (county_at counties) 1 names)

  founded-zero : unused_zero (Calls.founded choice c files file names counties) ≡ true
  unfolding unused_zero
  founded-zero = ap all_zero (ap (λ (k : ℕ). drop (rows_end (Calls.founded choice c files file names counties) k) (Calls.founded choice c files file names counties)) founded-used ∙ founded-tail) ∙ zeros-zero ((c - length names) * stride files file)

  founded-long : length_right (Calls.founded choice c files file names counties) ≡ true
  unfolding length_right
  founded-long = eq-eqb _ _ (founded-bytes ∙ sym (ap (rows_end (Calls.founded choice c files file names counties)) founded-capacity ∙ founded-end c))

  listed : (i : ℕ) → Within (length names) i → list (row_bytes (Calls.founded choice c files file names counties) i) ≡ Calls.founded_list a.choice a.counties (length names)
  listed = at_row (λ i r. list r ≡ Calls.founded_list a.choice a.counties (length names)) row_list

  -- each row has the county given for it, and no other row has one
  pub founded-county : county_of (Calls.founded choice c files file names counties) ≡ county_at counties
  unfolding county_of county_at
  founded-county = fun_ext (λ i. go i (leb 1 i && leb i (length names)) refl)
    where
      go : (i : ℕ) (b : Bool) → (leb 1 i && leb i (length names)) ≡ b → county_of (Calls.founded choice c files file names counties) i ≡ county_at counties i
      go i true e =
          let w : Within (length names) i = (leb-true 1 i (and_l _ _ e), leb-true i (length names) (and_r (leb 1 i) _ e)) in
          county-at (Calls.founded choice c files file names counties) i (rw founded-used w) ∙ at_row (λ i r. get county r ≡ county_at counties i) row-county i w
      go i false e = rw (founded-used, f.places, e)

  founded-marks : (i : ℕ) → Within (length names) i → mark_right (county_of (Calls.founded choice c files file names counties)) (list_of (Calls.founded choice c files file names counties) i) ≡ true
  unfolding list_of LaidMarks Calls.founded_list
  founded-marks i u = rw (founded-county, listed i u) ((laid-marks (eqb choice 1) (county_at counties) (2 ^ length names - 1)).right
      (count-one 64 (has (2 ^ length names - 1)) i (omega (arith, u, f.room, f.most)) (has_all_lem (length names) i u)))

  -- every copy says nothing yet
  pub founded-copies : (i q : ℕ) → Within (length names) i → Within files q → BlankCopy file (copy_bytes (Calls.founded choice c files file names counties) q i)
  unfolding copy_bytes
  founded-copies i q u v = rw founded-file (at_row (λ i r. BlankCopy file (copy_in file q r)) (λ i x w h. row-copies i x w h q v) i u)

  pub founded-formed : Formed (Calls.founded choice c files file names counties)
  unfolding list_of
  founded-formed = record {
    newest = header-form;
    header = founded-header;
    long = founded-long;
    heads = rw founded-used (at_row (HeadFacts (length names)) row-facts);
    copies = rw (founded-used, founded-files, founded-file) (λ i q u v. blank-facts (founded-copies i q u v));
    visits = founded-visits;
    rise = founded-rise;
    zero = founded-zero;
    agree = rw founded-used (λ i j u v p q e. listed i u ∙ sym (listed j v));
    marks = rw founded-used founded-marks;
    shape = rw founded-used (λ i j u v p q. ap is_tall (listed i u ∙ sym (listed j v)));
  }
