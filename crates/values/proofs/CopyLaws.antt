-- What is asked of a copy in the order in which the code asks it, and its window by parts.
use mathlib.Core.Path.{◌≡◌, refl, sym, ◌∙◌}
use mathlib.Core.Bool.{Bool, true, false, cond, ◌&&◌, and-false, and_comm}
use mathlib.Core.List.{List}
use Prim.Native.Nat.{ℕ, zero, suc, ◌+◌, ◌-◌, ◌≤◌, ◌<◌}
use native.Mathlib.Omega.{arith}
use lib.Dec.{eqb, leb, ltb}
use lib.ListN.{length, take, drop, length-take, length-drop}
use borrow.Author.Tests.{le-leb, lt-leb, eqb-true, eq-eqb, ne_eqb}
use Rattle.bools.proofs.BoolLaws.{and_l, and_r}
use Rattle.octets.specs.Bytes.{number, part, all_zero}
use Rattle.octets.proofs.CodeLaws.{tail-is, zero_number, zero-numbers}
use Rattle.fields.specs.Layout.{get, form_value, mark, oldest, version, desired, spare, mark_in, oldest_in, spare_in, records}
use Rattle.window.specs.Windows.{window_right, window_in}
use Rattle.windows.specs.Visits.{window}
use Rattle.table.specs.WellFormed.{limit, copy_values, desired_right, kept_right, copy_right}

regrouped : (a w s k : Bool) → ((a && s) && (w && k)) ≡ ((a && w) && s && k)
regrouped true true s k = refl
regrouped true false true k = refl
regrouped true false false k = refl
regrouped false w s k = refl

-- mark, version and desired version, then the bytes that hold nothing, then the window
pub copy-asked : (f file : ℕ) (copy : List ℕ) → copy_right f file copy
    ≡ ((leb (get (mark_in f) copy) 1 && leb (get version copy) limit && leb (get desired copy) limit)
    && cond (eqb (get (mark_in f) copy) 1) (ltb (get version copy) (get desired copy)) (eqb (get desired copy) 0) && all_zero (spare_in f copy) && kept_right f file copy)
unfolding copy_right copy_values desired_right
copy-asked f file copy =
    regrouped (leb (get (mark_in f) copy) 1 && leb (get version copy) limit && leb (get desired copy) limit)
    (cond (eqb (get (mark_in f) copy) 1) (ltb (get version copy) (get desired copy)) (eqb (get desired copy) 0)) (all_zero (spare_in f copy)) (kept_right f file copy)

-- the numbers of a copy without the mark: what is 0 is below the limit
pub unmarked : (m v d : ℕ) → m ≡ 0 → v ≤ limit → eqb d 0 ≡ ((leb m 1 && leb v limit && leb d limit) && cond (eqb m 1) (ltb v d) (eqb d 0))
unfolding limit
unmarked m v zero e h = rw (e, le-leb v 1_000_000 h)
unmarked m v (suc d) e h = rw (e, le-leb v 1_000_000 h, ne_eqb (suc d) 0 (λ q. omega arith)) (sym (and-false (leb (suc d) 1_000_000)))

-- and with it
pub marked : (m v d : ℕ) → m ≡ 1 → v ≤ limit → (ltb v d && leb d limit) ≡ ((leb m 1 && leb v limit && leb d limit) && cond (eqb m 1) (ltb v d) (eqb d 0))
marked m v d e h = rw (e, le-leb v limit h) (and_comm (ltb v d) (leb d limit))

-- a version beyond the limit
pub beyond : (file : ℕ) (copy : List ℕ) → limit < get version copy → false ≡ copy_right form_value file copy
beyond file copy h = sym (copy-asked form_value file copy ∙ rw (lt-leb (get version copy) limit h, and-false (leb (get (mark_in form_value) copy) 1)))

-- ---- a copy without mark, record or anything where there is no field: its first four bytes are 0
module _ (copy : List ℕ) (z : number (part 0 4 copy) ≡ 0) where
  halves : (eqb (number (part 0 2 copy)) 0 && eqb (number (part 2 2 copy)) 0) ≡ true
  halves = zero-numbers 0 2 2 copy ∙ sym (zero_number (part 0 4 copy)) ∙ eq-eqb _ 0 z

  two : (eqb (number (part 0 1 copy)) 0 && eqb (number (part 1 1 copy)) 0) ≡ true
  two = zero-numbers 0 1 1 copy ∙ sym (zero_number (part 0 2 copy)) ∙ and_l _ _ halves

  no-mark : get (mark_in form_value) copy ≡ 0
  unfolding get form_value mark_in mark
  no-mark = eqb-true _ 0 (and_l _ _ two)

  pub no_record : get (oldest_in form_value) copy ≡ 0
  unfolding get form_value oldest_in oldest
  no_record = eqb-true _ 0 (and_r (eqb (number (part 0 1 copy)) 0) _ two)

  no-spare : all_zero (spare_in form_value copy) ≡ true
  unfolding form_value spare_in spare
  no-spare = sym (zero_number (part 2 2 copy)) ∙ and_r (eqb (number (part 0 2 copy)) 0) _ halves

  -- desired version and window are left to be asked
  pub bare-asked : (file : ℕ) → get version copy ≤ limit → (eqb (get desired copy) 0 && kept_right form_value file copy) ≡ copy_right form_value file copy
  bare-asked file h = sym (copy-asked form_value file copy ∙ rw (no-spare, ← unmarked _ _ (get desired copy) no-mark h) (go (eqb (get desired copy) 0)))
    where
      go : (b : Bool) → (b && true && kept_right form_value file copy) ≡ (b && kept_right form_value file copy)
      go true = refl
      go false = refl

-- ---- the records are the last 576 bytes
module _ (copy : List ℕ) (at : ℕ) (long : length copy ≡ at + 576) where
  pub cut-long : length (take (length copy - at) (drop at copy)) ≡ 576
  cut-long = omega (arith, length-take (length copy - at) (drop at copy), length-drop at copy)

  -- the test of a window by its parts is that of the copy's window
  pub cut-kept : (f file v o : ℕ) → 3 ≤ f → v ≡ get version copy → o ≡ get (oldest_in f) copy
      → window_right file v (window o (take (length copy - at) (drop at copy))) ≡ kept_right f file copy
  unfolding window window_in records kept_right
  cut-kept f file v o late p q =
      let e : at ≡ length copy - 576 = omega arith in
      rw (le-leb 3 f late, p, q, tail-is copy at (length copy - 576) e)
