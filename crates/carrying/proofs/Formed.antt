-- A table carried over is right by its own form.
use mathlib.Core.Path.{◌≡◌, refl, sym, ◌∙◌, ap, ap₂, subst, fun_ext}
use mathlib.Core.Bool.{Bool, true, false, not, ◌&&◌, ◌||◌}
use mathlib.Core.Logic.{◌⊎◌, ⊎_elim, inl, inr}
use mathlib.Core.List.{List, [], ◌∷◌, ◌++◌, append_assoc}
use Prim.Native.Nat.{ℕ, zero, suc, ◌+◌, ◌-◌, ◌*◌, ◌≤◌, ◌<◌}
use native.Mathlib.Nat.{mul-le-mul_right}
use native.Mathlib.Decide.{dec_le}
use native.Mathlib.Omega.{arith}
use lib.Dec.{eqb, leb}
use lib.ListN.{length, take, drop, length-append, length-drop}
use lib.Seq.{drop_at, take-nil}
use borrow.Author.Tests.{eqb-true, eq-eqb, le-leb, lt-leb}
use Rattle.sets.specs.Upto.{Within, every}
use Rattle.bools.proofs.BoolLaws.{and_l, and_r, and_i, or_l, or_r}
use Rattle.sets.proofs.UptoLaws.{every-at, every_of}
use Rattle.octets.specs.Bytes.{number, part, zeros, all_zero}
use Rattle.octets.proofs.ByteLaws.{length-zeros, zeros-zero, first-zeros, split-zeros}
use Rattle.blocks.specs.Blocks.{block, in_turn}
use Rattle.blocks.proofs.BlockLaws.{in-turn-ext, length-in-turn, in-turn-more, in-turn-zeros}
use Rattle.fields.specs.Layout.{Field, get, store, form_value, rest_in, name, link, version, desired, epoch, members, grid_mark, county, list, is_empty, reserved_in, former_mark, former_oldest, mark_in, oldest_in, spare_in, records, copy_of, body_in, stride_in, form_of, capacity_of, used_of, first_of, file_length_of, row_length, rows_end, row_bytes, name_of, link_of, list_of, county_of}
use Rattle.fields.proofs.FieldLaws.{Ends, list-is, body-in}
use Rattle.window.specs.Windows.{places, width, window_right, window_in, emptied}
use Rattle.window.proofs.AddLaws.{emptied-right}
use Rattle.counties.specs.Marks.{tall_right}
use Rattle.table.specs.Asked.{Sized}
use Rattle.table.specs.WellFormed.{between, limit, own_form, header_values, length_right, head_values, copy_values, desired_right, list_right, county_right, plain, plain_right, kept_right, head_right, copy_right, row_right, visits_each, names_rise, unused_zero, lists_agree, marks_right}
use Rattle.table.proofs.FormLaws.{between_is, is-between, reserved-split, row-head, row-copy, row-reserved}
use Rattle.table.proofs.CountyLaws.{county-same}
use Rattle.table.proofs.TableLaws.{row-long}
use Rattle.table.proofs.WellFormedLaws.{own-sized, own-linked, row-right, header, length-is, rows_in}
use Rattle.carrying.specs.Moves.{goes_over, all_plain, carried_row, carried, carried_length}
use Rattle.carrying.specs.Claims.{CarriedRight}
use Rattle.carrying.proofs.RowLaws.{front_long, oldest-none, carried-row-long, carried-part, carried-byte, carried-get}
use Rattle.carrying.proofs.CarryLaws.{row_to, wide, row-to-long, head, head-long, carried-is, carried-size, carried-header, carried-form, carried-capacity, carried-used, carried_first, carried-file, carried-files, carried-length, carried_row_lem}
use Rattle.carrying.proofs.Carried.{unused-row, byte_of, own-zero}

-- ---- the pair of forms
abbrev pub Over : ℕ → ℕ → Type 0
Over f to = (Within 2 f × (to ≡ 3)) ⊎ ((f ≡ 3) × Within 2 to)

pub over-is : (f to : ℕ) → goes_over f to ≡ true → Over f to
unfolding goes_over
over-is f to e = go (between 1 f 2 && eqb to 3) refl
  where
    go : (b : Bool) → (between 1 f 2 && eqb to 3) ≡ b → Over f to
    go true q = inl (between_is 1 f 2 (and_l _ _ q), eqb-true to 3 (and_r (between 1 f 2) _ q))
    go false q = let r : (eqb f 3 && between 1 to 2) ≡ true = rw q at e in inr (eqb-true f 3 (and_l _ _ r), between_is 1 to 2 (and_r (eqb f 3) _ r))

mark-zero : (row : List ℕ) → plain row ≡ true → eqb (get grid_mark row) 0 ≡ true
unfolding plain
mark-zero row e = and_r (not (is_empty (list row))) _ e

over-low : (f to : ℕ) → Over f to → Within 3 f × Within 3 to
over-low f to over = ⊎_elim (λ w. (omega (arith, w.0), omega (arith, w.1))) (λ w. (omega (arith, w.0), omega (arith, w.1))) over

-- ---- before form 4 a row is its own copy
former-copy : (f file q : ℕ) (row : List ℕ) → f < 4 → copy_of f file q row ≡ row
unfolding copy_of
former-copy f file q row h = rw (lt-leb 4 f h)

former-window : (f : ℕ) (row : List ℕ) → f < 4 → window_in f row ≡ record { oldest = get former_oldest row; records = records row }
unfolding window_in oldest_in
former-window f row h = rw (lt-leb 4 f h)

-- ---- no row has an oldest record, and in form 3 its records are zero
oldest-new : (to file : ℕ) (row : List ℕ) → to < 4 → 32 + file ≤ length row → get former_oldest (carried_row to file row) ≡ 0
unfolding get former_oldest number zeros
oldest-new to file row low h = ap number (carried-byte to file row low h)

records-new : (file : ℕ) (row : List ℕ) → 32 + file ≤ length row → records (carried_row 3 file row) ≡ zeros 576
unfolding records carried_row body_in stride_in
records-new file row h =
    let l : length (carried_row 3 file row) ≡ 32 + (file + 576) = carried-row-long 3 file row (omega arith) h in
    let n : length (carried_row 3 file row) - 576 ≡ 32 + file = omega arith in
    let m : file + 576 - file ≡ 576 = omega arith in
    ap (λ (k : ℕ). drop k (carried_row 3 file row)) n ∙ drop_at (store former_oldest 0 (part 0 (32 + file) row)) (zeros (file + 576 - file)) (32 + file) (front_long 3 file row (omega arith) h) ∙ ap zeros m

-- a row carried to form 3 has an empty window
window-new : (file : ℕ) (row : List ℕ) → 32 + file ≤ length row → window_in 3 (carried_row 3 file row) ≡ emptied
unfolding emptied places width
window-new file row h = former-window 3 (carried_row 3 file row) (omega arith) ∙ (λ j. record { oldest = oldest-new 3 file row (omega arith) h j; records = records-new file row h j })

-- ---- one row
module _ (f to n i file : ℕ) (row : List ℕ) (over : Over f to) (h : 32 + file ≤ length row) where
  abbrev new : List ℕ
  new = carried_row to file row

  low : Within 3 f × Within 3 to
  low = over-low f to over

  at : (g : Field) → Ends g 25 → get g (carried_row to file row) ≡ get g row
  at g q = carried-get to file row (omega (arith, low)) h g q

  -- its head
  module _ (plain-one : to ≡ 1 → plain row ≡ true) (e : head_right f n i row ≡ true) where
    rest : all_zero (part 26 6 (carried_row to file row)) ≡ true
    rest =
        let all = sym (reserved-split f row low.0) ∙ row-reserved f n i row e in
        ap all_zero (carried-part to file row (omega (arith, low)) h 26 6 (inr (omega arith)) (omega arith)) ∙ and_r (leb 3 f || eqb (get former_oldest row) 0) _ (and_r (leb 2 f || eqb (get grid_mark row) 0) _ all)

    plain-same : plain (carried_row to file row) ≡ plain row
    unfolding plain is_empty list members grid_mark
    plain-same = rw (at members (omega arith), at grid_mark (omega arith))

    marked-new : (leb 2 to || eqb (get grid_mark (carried_row to file row)) 0) ≡ true
    marked-new = go (dec_le 2 to)
      where
        go : Dec (2 ≤ to) → (leb 2 to || eqb (get grid_mark (carried_row to file row)) 0) ≡ true
        go (yes q) = or_l _ _ (le-leb 2 to q)
        go (no q) = or_r (leb 2 to) _ (mark-zero _ (plain-same ∙ plain-one (omega (arith, low))))

    reserved-new : all_zero (reserved_in to (carried_row to file row)) ≡ true
    reserved-new =
        reserved-split to (carried_row to file row) low.1
        ∙ and_i _ _ marked-new (and_i _ _ (or_r (leb 3 to) _ (eq-eqb _ 0 (oldest-new to file row (omega (arith, low)) h))) rest)

    values-new : head_values to n (carried_row to file row) ≡ true
    unfolding head_values head_right name link epoch
    values-new =
        let v : head_values f n row ≡ true = and_l _ _ e in
        let v3 : (between 1 (get name row) 65_535 && leb (get link row) n && leb (get epoch row) limit) ≡ true = and_l _ _ v in
        rw (at name (omega arith), at link (omega arith), at epoch (omega arith), v3) reserved-new

    list_same : list_right n i (carried_row to file row) ≡ list_right n i row
    unfolding list_right is_empty list members
    list_same = rw (at members (omega arith))

    -- no form that a table moves to has counties
    county-new : county_right to (carried_row to file row) ≡ true
    unfolding county_right
    county-new = rw (lt-leb 5 to (omega (arith, low)))

    plain-new : plain_right to (carried_row to file row) ≡ true
    unfolding plain_right
    plain-new = go (dec_le 2 to)
      where
        go : Dec (2 ≤ to) → (leb 2 to || plain (carried_row to file row)) ≡ true
        go (yes q) = rw (le-leb 2 to q)
        go (no q) = rw (lt-leb 2 to (omega arith)) (plain-same ∙ plain-one (omega (arith, low)))

    pub head-over : head_right to n i (carried_row to file row) ≡ true
    unfolding head_right
    head-over =
        let e1 = and_r (head_values f n row) _ e in
        and_i _ _ values-new (and_i _ _ (list_same ∙ and_l _ _ e1) (and_i _ _ county-new plain-new))

  -- and its copy, which it is itself
  module _ (e : copy_right f file row ≡ true) where
    -- its mark and two numbers
    numbers : (g : ℕ) → g < 4 → (copy : List ℕ) → copy_values g copy ≡ (leb (get former_mark copy) 1 && leb (get version copy) limit && leb (get desired copy) limit && true)
    unfolding copy_values mark_in spare_in all_zero
    numbers g l copy = rw (lt-leb 4 g l)

    values_same : copy_values to (carried_row to file row) ≡ copy_values f row
    unfolding former_mark version desired
    values_same = numbers to (omega (arith, low)) (carried_row to file row) ∙ rw (at former_mark (omega arith), at version (omega arith), at desired (omega arith)) (sym (numbers f (omega (arith, low)) row))

    desired-same : desired_right to (carried_row to file row) ≡ desired_right f row
    unfolding desired_right mark_in former_mark version desired
    desired-same = rw (lt-leb 4 to (omega (arith, low)), lt-leb 4 f (omega (arith, low)), at former_mark (omega arith), at version (omega arith), at desired (omega arith))

    kept_new : kept_right to file (carried_row to file row) ≡ true
    unfolding kept_right
    kept_new = go (dec_le 3 to)
      where
        go : Dec (3 ≤ to) → (not (leb 3 to) || window_right file (get version (carried_row to file row)) (window_in to (carried_row to file row))) ≡ true
        go (yes q) =
            let three : to ≡ 3 = omega (arith, low) in
            rw (le-leb 3 to q, subst (λ (x : ℕ). window_in x (carried_row x file row) ≡ emptied) (sym three) (window-new file row h)) (emptied-right _ _)
        go (no q) = rw (lt-leb 3 to (omega arith))

    pub copy-over : copy_right to file (carried_row to file row) ≡ true
    unfolding copy_right
    copy-over =
        let e1 = and_r (copy_values f row) _ e in
        and_i _ _ (values_same ∙ and_l _ _ e) (and_i _ _ (desired-same ∙ and_l _ _ e1) kept_new)

-- ---- rows that are not there
nil-of : (xs : List ℕ) → length xs ≡ 0 → xs ≡ []
nil-of [] e = refl
nil-of (x ∷ xs) e = absurd (omega arith)

row-beyond : {t : List ℕ} → Sized t → (i : ℕ) → capacity_of t < i → row_bytes t i ≡ []
unfolding row_bytes block part rows_end
row-beyond s zero h = refl
row-beyond {t} s (suc k) h =
    let far : capacity_of t * row_length t ≤ k * row_length t = mul-le-mul_right {m = capacity_of t} {n = k} (row_length t) (omega arith) in
    ap (take (row_length t)) (nil-of (drop (16 + k * row_length t) t) (omega (arith, length-drop (16 + k * row_length t) t, length-is s))) ∙ take-nil (row_length t)

-- a zero row stays zero
zero-carried : (to file n : ℕ) (row : List ℕ) → to < 4 → row ≡ zeros n → 32 + file ≤ n → carried_row to file row ≡ zeros (stride_in to 1 file)
unfolding carried_row stride_in part
zero-carried to file n row low e h =
    let m : 32 + file + (body_in to 1 file - file) ≡ 32 + body_in to 1 file = omega (arith, body-in to 1 file low) in
    ap (λ (xs : List ℕ). store former_oldest 0 (take (32 + file) xs) ++ zeros (body_in to 1 file - file)) e
    ∙ ap (λ (xs : List ℕ). store former_oldest 0 xs ++ zeros (body_in to 1 file - file)) (first-zeros (32 + file) n h)
    ∙ ap (λ (xs : List ℕ). xs ++ zeros (body_in to 1 file - file)) (oldest-none (zeros (32 + file)) (omega (arith, length-zeros (32 + file))) (byte_of (zeros (32 + file)) (zeros-zero (32 + file)) (omega (arith, length-zeros (32 + file)))))
    ∙ sym (split-zeros (32 + file) (body_in to 1 file - file)) ∙ ap zeros m

no-row : (t : List ℕ) → row_bytes t 0 ≡ []
unfolding row_bytes block
no-row t = refl

plain_at : (t : List ℕ) (i : ℕ) → Within (used_of t) i → all_plain t ≡ true → plain (row_bytes t i) ≡ true
unfolding all_plain
plain_at t i w e = every-at (used_of t) _ e i w

-- ---- the table
module _ (t : List ℕ) (to : ℕ) (own : own_form t ≡ true) (over : Over (form_of t) to) (plain-one : to ≡ 1 → all_plain t ≡ true) where
  s : Sized t
  s = own-sized own

  former : form_of t < 4
  former = omega (arith, over-low (form_of t) to over)

  low-to : Within 3 to
  low-to = (over-low (form_of t) to over).1

  lower : to < 4
  lower = omega (arith, low-to)

  form_in : between 1 to form_value ≡ true
  unfolding form_value
  form_in = is-between 1 to form_value low-to.0 (omega (arith, low-to))

  -- before form 4 the header's bytes from the sixth on are zero
  rest_in_lem : (f : ℕ) (u : List ℕ) → f < 4 → rest_in f u ≡ part 6 10 u
  unfolding rest_in
  rest_in_lem f u h = rw (lt-leb 4 f h)

  header-new : header_values (carried to t) ≡ true
  unfolding header_values
  header-new =
      let h : header_values t ≡ true = s.header in
      let c : between 1 (capacity_of t) 64 ≡ true = search (and_l, and_r) in
      let u : between 1 (used_of t) (capacity_of t) ≡ true = search (and_l, and_r) in
      let f : between 1 (first_of t) (used_of t) ≡ true = search (and_l, and_r) in
      let l : between 1 (file_length_of t) 4_096 ≡ true = search (and_l, and_r) in
      let z : all_zero (rest_in (form_of t) t) ≡ true = search (and_l, and_r) in
      rw (carried-form s former to lower, carried-capacity s former to lower, carried-used s former to lower, carried_first s former to lower, carried-file s former to lower, carried-files s former to lower, form_in, c, u, f, l, is-between 1 1 8 (omega arith) (omega arith))
      (ap all_zero (rest_in_lem to (carried to t) lower ∙ carried-header s former to lower 5 10 (omega arith) ∙ sym (rest_in_lem (form_of t) t former)) ∙ z)

  length-new : length_right (carried to t) ≡ true
  unfolding length_right rows_end carried_length
  length-new = eq-eqb _ _ (carried-size s former to lower ∙ sym (ap₂ (λ (c w : ℕ). 16 + c * w) (carried-capacity s former to lower) (carried-length s former to lower)))

  sized_new : Sized (carried to t)
  sized_new = record { header = header-new; bytes = length-new }

  -- the first 25 bytes of each row stay
  field-same : (g : Field) → Ends g 25 → (i : ℕ) → get g (row_bytes (carried to t) i) ≡ get g (row_bytes t i)
  field-same g q i = go (dec_le 1 i) (dec_le i (capacity_of t))
    where
      go : Dec (1 ≤ i) → Dec (i ≤ capacity_of t) → get g (row_bytes (carried to t) i) ≡ get g (row_bytes t i)
      go (yes a) (yes b) = ap (get g) (carried_row_lem s former to lower i (omega arith)) ∙ carried-get to (file_length_of t) (row_bytes t i) lower (wide s former i (omega arith)) g q
      go (yes a) (no b) = ap (get g) (row-beyond sized_new i (omega (arith, carried-capacity s former to lower)) ∙ sym (row-beyond s i (omega arith)))
      go (no a) b = let z : i ≡ 0 = omega arith in ap (get g) (ap (row_bytes (carried to t)) z ∙ no-row (carried to t) ∙ sym (no-row t) ∙ ap (row_bytes t) (sym z))

  row_new : (i : ℕ) → Within (used_of t) i → row_right (carried to t) i ≡ true
  unfolding row_right
  row_new i w =
      let v : Within (capacity_of t) i = omega (arith, w, (header s.header).used) in
      let r = row-right (own-linked own) i w in
      let c : copy_right (form_of t) (file_length_of t) (row_bytes t i) ≡ true =
      rw (former-copy (form_of t) (file_length_of t) 1 (row_bytes t i) former) at (row-copy t i 1 r (omega (arith, (header s.header).files))) in
      rw (carried-used s former to lower, carried-form s former to lower, carried-file s former to lower, carried-files s former to lower, carried_row_lem s former to lower i v) (and_i _ _
      (head-over (form_of t) to (used_of t) i (file_length_of t) (row_bytes t i) over (wide s former i v) (λ q. plain_at t i w (plain-one q)) (row-head t i r))
      (every_of 1 _ (λ q u. rw (former-copy to (file_length_of t) q (row_to to t i) lower) (copy-over (form_of t) to (used_of t) i (file_length_of t) (row_bytes t i) over (wide s former i v) c))))

  rows_new : every (used_of (carried to t)) (row_right (carried to t)) ≡ true
  rows_new = rw (carried-used s former to lower) (every_of (used_of t) (row_right (carried to t)) row_new)

  links-same : link_of (carried to t) ≡ link_of t
  unfolding link_of link
  links-same = fun_ext (field-same link (omega arith))

  names_same : name_of (carried to t) ≡ name_of t
  unfolding name_of name
  names_same = fun_ext (field-same name (omega arith))

  lists-same : list_of (carried to t) ≡ list_of t
  unfolding list_of list members grid_mark
  lists-same = fun_ext (λ i. list-is (row_bytes (carried to t) i) (list_of t i) (field-same members (omega arith) i) (field-same grid_mark (omega arith) i))

  visits-new : visits_each (carried to t) ≡ visits_each t
  unfolding visits_each
  visits-new = rw (links-same, carried-used s former to lower, carried_first s former to lower)

  rise-new : names_rise (carried to t) ≡ names_rise t
  unfolding names_rise
  rise-new = rw (links-same, names_same, carried-used s former to lower, carried_first s former to lower)

  counties-same : county_of (carried to t) ≡ county_of t
  unfolding get county
  counties-same = county-same t (carried to t) (carried-used s former to lower)
      (λ i w. let v : Within (capacity_of t) i = omega (arith, w, (header s.header).used) in
      ap (get county) (carried_row_lem s former to lower i v) ∙ ap number (carried-part to (file_length_of t) (row_bytes t i) lower (wide s former i v) 26 1 (inr (omega arith)) (omega arith)))

  marks-new : marks_right (carried to t) ≡ marks_right t
  unfolding marks_right
  marks-new = rw (lists-same, counties-same, carried-used s former to lower)

  tall-new : tall_right (used_of (carried to t)) (list_of (carried to t)) ≡ tall_right (used_of t) (list_of t)
  tall-new = rw (lists-same, carried-used s former to lower)

  agree-new : (i j : ℕ) → lists_agree (row_bytes (carried to t) i) (row_bytes (carried to t) j) ≡ lists_agree (row_bytes t i) (row_bytes t j)
  unfolding lists_agree is_empty list members grid_mark epoch
  agree-new i j = rw (field-same members (omega arith) i, field-same members (omega arith) j, field-same grid_mark (omega arith) i, field-same grid_mark (omega arith) j, field-same epoch (omega arith) i, field-same epoch (omega arith) j)

  -- the rows behind the used ones
  unused-new : (i : ℕ) → Within (capacity_of t - used_of t) i → row_to to t (used_of t + i) ≡ zeros (stride_in to 1 (file_length_of t))
  unused-new i w =
      let v : Within (capacity_of t) (used_of t + i) = omega arith in
      zero-carried to (file_length_of t) (row_length t) (row_bytes t (used_of t + i)) lower (unused-row s (own-zero t own) (used_of t + i) v (omega arith)) (wide_row v)
    where
      wide_row : Within (capacity_of t) (used_of t + i) → 32 + file_length_of t ≤ row_length t
      wide_row v = omega (arith, wide s former (used_of t + i) v, row-long t (capacity_of t) (rows_in s (capacity_of t) (omega arith)) (used_of t + i) v)

  zero-new : unused_zero (carried to t) ≡ true
  unfolding unused_zero rows_end
  zero-new =
      let u : used_of t ≤ capacity_of t = (header s.header).used.1 in
      let n : used_of t + (capacity_of t - used_of t) ≡ capacity_of t = omega arith in
      let front = head s former to lower ++ in_turn (used_of t) (row_to to t) in
      let whole : carried to t ≡ front ++ zeros ((capacity_of t - used_of t) * stride_in to 1 (file_length_of t)) =
      carried-is s former to lower ∙ ap (λ (x : List ℕ). head s former to lower ++ x) (ap (λ (m : ℕ). in_turn m (row_to to t)) (sym n) ∙ in-turn-more (used_of t) (capacity_of t - used_of t) (row_to to t)
      ∙ ap (λ (x : List ℕ). in_turn (used_of t) (row_to to t) ++ x) (in-turn-ext (capacity_of t - used_of t) _ _ unused-new ∙ in-turn-zeros (stride_in to 1 (file_length_of t)) (capacity_of t - used_of t)))
      ∙ sym (append_assoc (head s former to lower) (in_turn (used_of t) (row_to to t)) (zeros ((capacity_of t - used_of t) * stride_in to 1 (file_length_of t)))) in
      ap₂ (λ (k w : ℕ). all_zero (drop (16 + k * w) (carried to t))) (carried-used s former to lower) (carried-length s former to lower)
      ∙ ap (λ (x : List ℕ). all_zero (drop (16 + used_of t * stride_in to 1 (file_length_of t)) x)) whole
      ∙ ap all_zero (drop_at front _ (16 + used_of t * stride_in to 1 (file_length_of t))
      (length-append (head s former to lower) (in_turn (used_of t) (row_to to t)) ∙ omega (arith, head-long s former to lower, length-in-turn (stride_in to 1 (file_length_of t)) (used_of t) (row_to to t) (λ i w. row-to-long s former to lower i (omega arith)))))
      ∙ zeros-zero ((capacity_of t - used_of t) * stride_in to 1 (file_length_of t))

  pub formed-new : own_form (carried to t) ≡ true
  unfolding own_form
  formed-new =
      let e1 = and_r (header_values t) _ own in
      let e2 = and_r (length_right t) _ e1 in
      let e3 = and_r (every (used_of t) (row_right t)) _ e2 in
      let e4 = and_r (visits_each t) _ e3 in
      let e5 = and_r (names_rise t) _ e4 in
      let e6 = and_r (unused_zero t) _ e5 in
      let e7 = and_r (every (used_of t) (λ i. every (used_of t) (λ j. lists_agree (row_bytes t i) (row_bytes t j)))) _ e6 in
      let agree : every (used_of t) (λ i. every (used_of t) (λ j. lists_agree (row_bytes t i) (row_bytes t j))) ≡ true = and_l _ _ e6 in
      let agreed : every (used_of (carried to t)) (λ i. every (used_of (carried to t)) (λ j. lists_agree (row_bytes (carried to t) i) (row_bytes (carried to t) j))) ≡ true =
      rw (carried-used s former to lower) (every_of (used_of t) _ (λ i w. every_of (used_of t) _ (λ j v. agree-new i j ∙ every-at (used_of t) _ (every-at (used_of t) _ agree i w) j v))) in
      and_i _ _ header-new (and_i _ _ length-new (and_i _ _ rows_new (and_i _ _ (visits-new ∙ and_l _ _ e3) (and_i _ _ (rise-new ∙ and_l _ _ e4) (and_i _ _ zero-new (and_i _ _
      agreed
      (and_i _ _ (marks-new ∙ and_l _ _ e7) (tall-new ∙ and_r (marks_right t) _ e7))))))))

pub carried-right : CarriedRight
unfolding CarriedRight
carried-right t to own plain-one e =
    let over = over-is (form_of t) to e in
    let low = over-low (form_of t) to over in
    let s = own-sized own in
    record {
      form = carried-form s (omega (arith, low)) to (omega (arith, low));
      used = carried-used s (omega (arith, low)) to (omega (arith, low));
      long = carried-size s (omega (arith, low)) to (omega (arith, low));
      own = formed-new t to own over plain-one;
    }
