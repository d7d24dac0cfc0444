-- A founding, as the code goes through it.
use mathlib.Core.Path.{◌≡◌, refl, sym, ◌∙◌, ap, ap₂}
use mathlib.Core.Bool.{Bool, true, cond, ◌&&◌, and-true}
use mathlib.Core.List.{List, [], ◌∷◌}
use Prim.Native.Nat.{ℕ, suc, ◌+◌, ◌*◌, ◌%◌, ◌^◌, ◌≤◌, ◌<◌}
use native.Mathlib.Numerals.{add-one}
use native.Mathlib.Omega.{arith}
use lib.Dec.{eqb, leb, ltb}
use lib.ListN.{length, get_or, drop}
use lib.Seq.{drop-cons, drop-length}
use borrow.Author.Tests.{le-leb, eqb-true}
use Rattle.sets.specs.Upto.{Within, every}
use Rattle.bools.proofs.BoolLaws.{and_l, and_r, and_assoc}
use Rattle.fields.specs.Layout.{stride}
use Rattle.table.specs.WellFormed.{between, is_county}
use Rattle.counties.specs.Counties.{county_at}
use Rattle.asking.specs.Asking.{first_no}
use Rattle.protocol.specs.Calls.{Founding, Outcome, founding, questions, names_in, names_rising, founded, done, outcome, result_of}
use Rattle.protocol.proofs.QuestionLaws.{refusal_is, when-done}
use Rattle.protocol.proofs.FoundedLaws.{founds-of}
use Rattle.laying.proofs.NameLaws.{names-even, place_at}

-- ---- question 11's loop: the names before the k-th rise (ok) up to `low`
module _ (names : List ℕ) (k low : ℕ) (ok : Bool) (so_far : (ok && names_rising low (drop k names)) ≡ names_rising 0 names) where
  pub rise-turn : (x : ℕ) (r : Bool) → k < length names → x ≡ get_or names k 0 → x ≤ 65_535 → r ≡ (ok && ltb low x)
      → (r && names_rising x (drop (k + 1) names)) ≡ names_rising 0 names
  unfolding names_rising
  rise-turn x r h e small d =
      rw (d, add-one k)
      (and_assoc ok (ltb low x) (names_rising x (drop (suc k) names))
      ∙ ap (λ (b : Bool). ok && (b && names_rising x (drop (suc k) names))) (sym (and-true (ltb low x)) ∙ ap (λ (b : Bool). ltb low x && b) (sym (le-leb x 65_535 small)))
      ∙ ap (λ (y : ℕ). ok && names_rising low (y ∷ drop (suc k) names)) e
      ∙ ap (λ (xs : List ℕ). ok && names_rising low xs) (sym (drop-cons names k 0 h))
      ∙ so_far)

  pub rise-end : k ≡ length names → ok ≡ names_rising 0 names
  unfolding names_rising
  rise-end e =
      let z : drop k names ≡ [] = ap (λ (n : ℕ). drop n names) e ∙ drop-length names in
      sym (and-true ok) ∙ ap (λ (xs : List ℕ). ok && names_rising low xs) (sym z) ∙ so_far

-- ---- question 20's loop: the counties of the first k rows are right (ok)
pub places-turn : (places : List ℕ) (k : ℕ) (ok r : Bool) → k < length places → ok ≡ every k (λ i. is_county (county_at places i)) → r ≡ (ok && is_county (get_or places k 0))
    → r ≡ every (k + 1) (λ i. is_county (county_at places i))
unfolding every
places-turn places k ok r h so_far e =
    rw (add-one k) (e ∙ ap₂ ◌&&◌ so_far (ap is_county (sym (place_at k places h) ∙ ap (county_at places) (add-one k))))

-- ---- the three questions, 11, 12 and 20
module _ (t : List ℕ) (a : Founding) where
  abbrev pub NamesRight : Bool
  NamesRight = eqb (length a.names % 2) 0 && between 1 (length (names_in a.names)) 64 && names_rising 0 (names_in a.names)

  abbrev pub Eleven : Bool
  Eleven = NamesRight && leb a.choice 1

  abbrev pub Twelve : Bool
  Twelve = between 1 a.capacity 64 && leb (length (names_in a.names)) a.capacity && between 1 a.file_length 4_096 && between 1 a.files 8 && eqb (length t) (16 + a.capacity * stride a.files a.file_length)

  abbrev pub Twenty : Bool
  Twenty = eqb (length a.counties) (length (names_in a.names)) && every (length (names_in a.names)) (λ i. is_county (county_at a.counties i))

  pub found-answers : (x y z : Bool) → Eleven ≡ x → Twelve ≡ y → Twenty ≡ z → cond x (cond y (cond z 0 20) 12) 11 ≡ first_no (questions t (founding a))
  unfolding questions first_no
  found-answers x y z ex ey ez = rw (ex, ey, ez) refl

  -- as many bytes as two for each name
  pub two-each : Eleven ≡ true → length a.names ≡ 2 * length (names_in a.names)
  two-each h = names-even a.names (eqb-true (length a.names % 2) 0 (and_l _ _ (and_l (eqb (length a.names % 2) 0 && between 1 (length (names_in a.names)) 64) _ (and_l NamesRight _ h))))

  module _ (eleven : Eleven ≡ true) (twelve : Twelve ≡ true) (twenty : Twenty ≡ true) where
    all_yes : first_no (questions t (founding a)) ≡ 0
    all_yes = sym (found-answers true true true eleven twelve twenty)

    pub found-fits : (length t ≡ 16 + a.capacity * stride a.files a.file_length) × Within 8 a.files × Within 4_096 a.file_length × (a.capacity ≤ 64) × (length a.names ≡ 2 * length (names_in a.names)) × Within a.capacity (length (names_in a.names)) × (length a.counties ≡ length (names_in a.names)) × ((k : ℕ) → k < length a.counties → get_or a.counties k 0 ≤ 8)
    found-fits =
        let f = founds-of t a all_yes in (
          eqb-true (length t) (16 + a.capacity * stride a.files a.file_length) (and_r (between 1 a.capacity 64 && leb (length (names_in a.names)) a.capacity && between 1 a.file_length 4_096 && between 1 a.files 8) _ twelve),
          f.group,
          f.bytes,
          f.most,
          two-each eleven,
          (f.some, f.room),
          f.places,
          λ k h. rw (← place_at k a.counties h) (f.placed (k + 1) (omega (arith, f.places))).1,
        )

    pub found-done : (0 * 2 ^ 32 + length (names_in a.names) ≡ result_of (outcome t (founding a)))
        × (founded a.choice a.capacity a.files a.file_length (names_in a.names) a.counties ≡ (outcome t (founding a)).table)
    unfolding done result_of
    found-done =
        let o = when-done t (founding a) (refusal_is t (founding a) ∙ all_yes) in
        (sym (ap result_of o), sym (ap (λ (x : Outcome). x.table) o))
