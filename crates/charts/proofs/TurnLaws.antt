-- One turn of each loop of the code, over plain variables.
use mathlib.Core.Path.{◌≡◌, refl, sym, ◌∙◌, ap}
use mathlib.Core.Bool.{Bool, true, false, cond, and-false}
use mathlib.Core.List.{List, [], ◌∷◌, ◌++◌}
use Prim.Native.Nat.{ℕ, zero, suc, ◌+◌, ◌-◌, ◌*◌, ◌/◌, ◌%◌, ◌^◌, ◌≤◌, ◌<◌}
use native.Mathlib.Nat.{zero-add, suc-add, mul-mod_left, mul-le-mul_right, div-add-mod'}
use native.Mathlib.Numerals.{add-one}
use native.Mathlib.Omega.{arith}
use borrow.Author.Tests.{le-leb, lt-leb}
use lib.Dec.{leb}
use lib.Arith.{digits_div}
use lib.ListN.{length, length-append}
use lib.Pow.{pow-add}
use Rattle.bools.proofs.BoolLaws.{clash, same_test}
use Rattle.sets.specs.Upto.{upward, keep}
use Rattle.sets.specs.Sets.{has}
use Rattle.sets.proofs.KeepLaws.{keep-more}
use Rattle.sets.proofs.RisingLaws.{upward-more}
use Rattle.grid.specs.declared.Grid.{Grid}
use Rattle.grid.specs.Sizes.{mark_fits}
use Rattle.octets.specs.Bytes.{bytes_of, put}
use Rattle.octets.proofs.ByteLaws.{put-more}
use Rattle.charting.specs.Charts.{smallest, chart, in_places, has_chart}
use Rattle.charting.proofs.Computed.{chart-mark}
use Rattle.charts.specs.Drawn.{chart_to}
use Rattle.charting.proofs.ChartLaws.{places-length, places-more}

-- ---- draw_row: the sets from a multiple of m on, m of them, have the same rows above the first
pub same_block : (m start x : ℕ) → start % m ≡ 0 → start ≤ x → x < start + m → x / m ≡ start / m
same_block m start x e l h =
    let z : x ≡ start / m * m + (x - start) = omega (arith, div-add-mod' start m) in
    let q : x - start < m = omega arith in ap (λ (y : ℕ). y / m) z ∙ digits_div (start / m) q

-- n in blocks of m: each is within, and together they are all where n is a multiple of m
pub block-fits : (m n row : ℕ) → row < n / m → row * m + m ≤ n
block-fits m n row h = omega (arith, div-add-mod' n m, mul-le-mul_right {m = suc row} {n = n / m} m h)

pub blocks-end : (m n row : ℕ) → n % m ≡ 0 → row ≡ n / m → row * m ≡ n
blocks-end m n row e q = ap (λ (k : ℕ). k * m) q ∙ omega (arith, div-add-mod' n m, e)

pub power-multiple : (n N : ℕ) → n ≤ N → 2 ^ N % 2 ^ n ≡ 0
power-multiple n N h =
    let z : N ≡ N - n + n = omega arith in ap (λ (x : ℕ). 2 ^ x % 2 ^ n) z ∙ rw (pow-add 2 (N - n) n) (mul-mod_left (2 ^ (N - n)) (2 ^ n))

-- ---- draw: the chart as far as the sets below n
module _ (g : Grid) (N : ℕ) where
  pub chart-turn : (n : ℕ) → chart_to g N (n + 1) ≡ cond (smallest g N (has n)) (chart_to g N n ++ (n ∷ [])) (chart_to g N n)
  unfolding chart_to
  chart-turn n =
      ap (λ (k : ℕ). keep (λ x. smallest g N (has x)) (upward k 0)) (add-one n)
      ∙ ap (keep (λ x. smallest g N (has x))) (upward-more n 0 ∙ rw (zero-add n))
      ∙ keep-more (λ x. smallest g N (has x)) (upward n 0) n

  chart-grows : (n k : ℕ) → length (chart_to g N n) ≤ length (chart_to g N (k + n))
  chart-grows n zero = rw (zero-add n) (omega arith)
  chart-grows n (suc k) = go (smallest g N (has (k + n))) refl (chart-grows n k)
    where
      next : chart_to g N (suc k + n) ≡ cond (smallest g N (has (k + n))) (chart_to g N (k + n) ++ ((k + n) ∷ [])) (chart_to g N (k + n))
      next = ap (chart_to g N) (suc-add k n ∙ sym (add-one (k + n))) ∙ chart-turn (k + n)

      go : (b : Bool) → smallest g N (has (k + n)) ≡ b → length (chart_to g N n) ≤ length (chart_to g N (k + n)) → length (chart_to g N n) ≤ length (chart_to g N (suc k + n))
      go true e ih = rw (next, e) (omega (arith, length-append (chart_to g N (k + n)) ((k + n) ∷ [])))
      go false e ih = rw (next, e) ih

  -- a set that is entered is one of the chart, so there is a place for it
  pub draw-room : (n at : ℕ) → at ≡ 2 * length (chart_to g N n) → length (chart g N) ≤ 64 → n < 2 ^ N → smallest g N (has n) ≡ true → at + 2 ≤ 128
  unfolding chart chart_to
  draw-room n at so few h e =
      let l = chart-grows (n + 1) (2 ^ N - (n + 1)) in
      let q : 2 ^ N - (n + 1) + (n + 1) ≡ 2 ^ N = omega arith in
      let t : chart_to g N (n + 1) ≡ chart_to g N n ++ (n ∷ []) = chart-turn n ∙ rw e in
      omega (arith, ap length t, length-append (chart_to g N n) (n ∷ []), (rw q at l))

  pub at_turn : (n at : ℕ) → at ≡ 2 * length (chart_to g N n) → (w : Bool) → w ≡ smallest g N (has n) → cond w (at + 2) at ≡ 2 * length (chart_to g N (n + 1))
  at_turn n at so true e = let t : chart_to g N (n + 1) ≡ chart_to g N n ++ (n ∷ []) = chart-turn n ∙ rw (← e) in omega (arith, ap length t, length-append (chart_to g N n) (n ∷ []))
  at_turn n at so false e = let t : chart_to g N (n + 1) ≡ chart_to g N n = chart-turn n ∙ rw (← e) in rw t so

  pub list-turn : (n at : ℕ) → at ≡ 2 * length (chart_to g N n) → (w : Bool) → w ≡ smallest g N (has n) → (xs list : List ℕ) → list ≡ put 0 (in_places (chart_to g N n)) xs
      → cond w (put at (bytes_of 2 n) list) list ≡ put 0 (in_places (chart_to g N (n + 1))) xs
  list-turn n at so true e xs list so_far =
      let t : chart_to g N (n + 1) ≡ chart_to g N n ++ (n ∷ []) = chart-turn n ∙ rw (← e) in
      let z : at ≡ length (in_places (chart_to g N n)) = so ∙ sym (places-length (chart_to g N n)) in
      rw (z, so_far, t, places-more (chart_to g N n) n) (put-more (in_places (chart_to g N n)) (bytes_of 2 n) xs)
  list-turn n at so false e xs list so_far = let t : chart_to g N (n + 1) ≡ chart_to g N n = chart-turn n ∙ rw (← e) in rw t so_far

  pub draw-start : (xs : List ℕ) → (0 ≡ 2 * length (chart_to g N 0)) × (xs ≡ put 0 (in_places (chart_to g N 0)) xs)
  unfolding chart_to upward keep in_places put
  draw-start xs = (refl, refl)

  pub draw-end : (n at : ℕ) → n ≡ 2 ^ N → at ≡ 2 * length (chart_to g N n) → (xs list : List ℕ) → list ≡ put 0 (in_places (chart_to g N n)) xs
      → (at / 2 ≡ length (chart g N)) × (list ≡ put 0 (in_places (chart g N)) xs)
  unfolding chart chart_to
  draw-end n at e so xs list so_far = let t : chart_to g N n ≡ chart g N = ap (chart_to g N) e in (omega (arith, ap length t), so_far ∙ ap (λ (l : List ℕ). put 0 (in_places l) xs) t)

-- ---- has_chart: each way out
module _ (N mark : ℕ) where
  pub no-members : N ≡ 0 → false ≡ has_chart N mark
  unfolding has_chart
  no-members e = rw (lt-leb 1 N (omega arith))

  pub too_many : 9 < N → false ≡ has_chart N mark
  unfolding has_chart
  too_many h = rw (lt-leb N 9 h) (sym (and-false (leb 1 N)))

  pub no-mark : 255 < mark → false ≡ has_chart N mark
  no-mark h = same_test false (has_chart N mark) (λ e. absurd (clash e)) (λ e. absurd (omega (arith, chart-mark N mark e)))

  pub by-mark : 1 ≤ N → N ≤ 9 → mark_fits mark N ≡ has_chart N mark
  unfolding has_chart
  by-mark some few = rw (le-leb 1 N some, le-leb N 9 few)
