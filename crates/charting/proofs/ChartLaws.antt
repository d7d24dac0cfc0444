-- What the call leaves, and the places of its list.
use mathlib.Core.Path.{◌≡◌, refl, sym, ◌∙◌, ap}
use mathlib.Core.Bool.{Bool, true, false}
use mathlib.Core.List.{List, [], ◌∷◌, ◌++◌, append_assoc, append-nil}
use Prim.Native.Nat.{ℕ, zero, suc, ◌+◌, ◌*◌, ◌^◌, ◌≤◌, ◌<◌}
use native.Mathlib.Nat.{zero-add}
use native.Mathlib.Omega.{arith}
use lib.Dec.{leb}
use lib.ListN.{length, get_or, drop, length-append}
use lib.Pow.{pow_mono}
use borrow.Author.Tests.{le-leb, lt-leb, leb-true, leb-false, ltb-true}
use Rattle.bools.proofs.BoolLaws.{and_l}
use Rattle.sets.proofs.RisingLaws.{among-at}
use Rattle.grid.specs.Sizes.{grid_by}
use Rattle.octets.specs.Bytes.{number, bytes_of, part, put}
use Rattle.octets.proofs.ByteLaws.{length-bytes, number-bytes, part-part, length-put, part-put, drop-put-after}
use Rattle.asking.specs.Asking.{first_no}
use Rattle.charting.specs.Charts.{chart, in_places, has_chart, places, chart_questions, Charted, charted}
use Rattle.charting.specs.Claims.{ChartIs, PlacesSuffice, PlacesHold, UnusedStay}
use Rattle.charting.proofs.SmallestLaws.{chart-is}
use Rattle.charting.proofs.Computed.{chart-length, places-suffice}

-- ---- the places
pub places-length : (xs : List ℕ) → length (in_places xs) ≡ 2 * length xs
unfolding in_places
places-length [] = refl
places-length (x ∷ xs) = length-append (bytes_of 2 x) (in_places xs) ∙ omega (arith, length-bytes 2 x, places-length xs)

pub places-more : (xs : List ℕ) (x : ℕ) → in_places (xs ++ (x ∷ [])) ≡ in_places xs ++ bytes_of 2 x
unfolding in_places
places-more [] x = append-nil (bytes_of 2 x)
places-more (y ∷ xs) x = ap (λ (l : List ℕ). bytes_of 2 y ++ l) (places-more xs x) ∙ sym (append_assoc (bytes_of 2 y) (in_places xs) (bytes_of 2 x))

-- place i holds number i
place_at : (xs : List ℕ) (i : ℕ) → i < length xs → part (2 * i) 2 (in_places xs) ≡ bytes_of 2 (get_or xs i 0)
unfolding in_places part bytes_of
place_at [] i h = absurd (omega arith)
place_at (x ∷ xs) zero h = refl
place_at (x ∷ xs) (suc i) h = let e : 2 * suc i ≡ suc (suc (2 * i)) = omega arith in rw e (place_at xs i (omega arith))

-- ---- each way out
module _ (N mark : ℕ) (list : List ℕ) where
  abbrev pub refused_by : ℕ → Charted
  refused_by n = record { refusal = n; value = 0; list = list }

  abbrev pub drawn : Charted
  drawn = record { refusal = 0; value = length (chart (grid_by mark N) N); list = put 0 (in_places (chart (grid_by mark N) N)) list }

  pub charted-17 : has_chart N mark ≡ false → charted N mark list ≡ refused_by 17
  unfolding charted chart_questions first_no places
  charted-17 e = rw e

  pub charted-5 : has_chart N mark ≡ true → length list < 128 → charted N mark list ≡ refused_by 5
  unfolding charted chart_questions first_no places
  charted-5 e h = rw (e, lt-leb 128 (length list) h)

  pub charted-done : has_chart N mark ≡ true → 128 ≤ length list → charted N mark list ≡ drawn
  unfolding charted chart_questions first_no places
  charted-done e h = rw (e, le-leb 128 (length list) h)

  -- what is shown of a refusal and of a drawn chart is shown of every call
  pub by_cases : (P : Charted → Type 0) → ((n : ℕ) → P (refused_by n)) → (has_chart N mark ≡ true → 128 ≤ length list → P drawn) → P (charted N mark list)
  by_cases P not_done is-done = go (has_chart N mark) refl (leb 128 (length list)) refl
    where
      go : (a : Bool) → has_chart N mark ≡ a → (b : Bool) → leb 128 (length list) ≡ b → P (charted N mark list)
      go false e b f = rw (charted-17 e) (not_done 17)
      go true e false f = rw (charted-5 e (leb-false 128 (length list) f)) (not_done 5)
      go true e true f = let l = leb-true 128 (length list) f in rw (charted-done e l) (is-done e l)

  -- ---- a drawn chart in its list
  module _ (e : has_chart N mark ≡ true) (l : 128 ≤ length list) where
    fits : 0 + length (in_places (chart (grid_by mark N) N)) ≤ length list
    unfolding PlacesSuffice places
    fits = omega (arith, places-length (chart (grid_by mark N) N), places-suffice N mark e)

    -- a number of the chart has two bytes
    two_bytes : (i : ℕ) → i < length (chart (grid_by mark N) N) → get_or (chart (grid_by mark N) N) i 0 < 256 ^ 2
    unfolding ChartIs
    two_bytes i h =
        let m = sym (chart-is (grid_by mark N) N (get_or (chart (grid_by mark N) N) i 0)) ∙ among-at (chart (grid_by mark N) N) i h in
        let p : 2 ^ N ≤ 2 ^ 9 = pow_mono (chart-length N mark e).1 in
        omega (arith, ltb-true _ (2 ^ N) (and_l _ _ m))

pub places-hold : PlacesHold
unfolding PlacesHold
places-hold N mark list i = by_cases N mark list (λ o. i < o.value → number (part (2 * i) 2 o.list) ≡ get_or (chart (grid_by mark N) N) i 0)
    (λ n h. absurd (omega arith))
    (λ e l h.
    let c = chart (grid_by mark N) N in
    let f = fits N mark list e l in
    let inside : 2 * i + 2 ≤ length (in_places c) = omega (arith, places-length c) in
    let from : part (2 * i) 2 (put 0 (in_places c) list) ≡ part (0 + 2 * i) 2 (put 0 (in_places c) list) = rw (zero-add (2 * i)) in
    ap number (from ∙ sym (part-part 0 (length (in_places c)) (2 * i) 2 (put 0 (in_places c) list) inside) ∙ ap (part (2 * i) 2) (part-put list 0 (in_places c) f) ∙ place_at c i h)
    ∙ number-bytes 2 (get_or c i 0) (two_bytes N mark list e l i h))

pub unused-stay : UnusedStay
unfolding UnusedStay
unused-stay N mark list = by_cases N mark list (λ o. (length o.list ≡ length list) × (drop (2 * o.value) o.list ≡ drop (2 * o.value) list))
    (λ n. (refl, refl))
    (λ e l.
    let c = chart (grid_by mark N) N in
    let f = fits N mark list e l in
    (length-put list 0 (in_places c) f, drop-put-after list 0 (in_places c) f (2 * length c) (omega (arith, places-length c))))
