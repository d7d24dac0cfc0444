-- The sizes of the published grid, for any length.
use mathlib.Core.Path.{◌≡◌, refl, sym, ◌∙◌, ap}
use mathlib.Core.Logic.{◌≢◌, ◌⊎◌, ⊎_elim, inl, inr}
use mathlib.Core.Bool.{Bool, true, false, cond, ◌&&◌, ◌||◌, and-false}
use Prim.Native.Nat.{ℕ, zero, suc, ◌+◌, ◌*◌, ◌^◌, ◌≤◌, ◌<◌}
use native.Mathlib.Omega.{arith}
use lib.Dec.{leb, ltb, eqb}
use borrow.Author.Tests.{le-leb, leb-true, leb-false, ltb-true, ltb-false, eqb-true, eqb-false, ne_eqb}
use Rattle.bools.proofs.BoolLaws.{and_l, and_r, or-e, clash}
use Rattle.grid.specs.declared.Grid.{Grid}
use Rattle.grid.specs.Claims.{FivesLaid}
use Rattle.grid.specs.Sizes.{Fits, root, root_up, published, new_five, exchanged, grid_by, mark_fits, new_mark, no_grid}

-- s is the square root of N rounded down
pub record Root (N s : ℕ) : Type 0 where
  pub low : s * s ≤ N
  pub high : N < (s + 1) * (s + 1)

pub root_is : (N : ℕ) → Root N (root N)
unfolding root
root_is zero = record { low = omega arith; high = omega arith }
root_is (suc n) = go (root n) (root_is n) (leb ((root n + 1) * (root n + 1)) (suc n)) refl
  where
    go : (s : ℕ) → Root n s → (b : Bool) → leb ((s + 1) * (s + 1)) (suc n) ≡ b → Root (suc n) (cond b (s + 1) s)
    go s r true e = record { low = omega (arith, leb-true); high = omega (arith, r.high) }
    go s r false e = record { low = omega (arith, r.low); high = omega (arith, leb-false) }

-- n is the square root of N rounded up
pub record RootUp (N n : ℕ) : Type 0 where
  pub high : N ≤ n * n
  pub low : (s : ℕ) → n ≡ s + 1 → s * s < N

pub root-up-is : (N : ℕ) → 1 ≤ N → RootUp N (root_up N)
unfolding root_up
root-up-is N pos = go (root N) (root_is N) (eqb (root N * root N) N) refl
  where
    go : (s : ℕ) → Root N s → (b : Bool) → eqb (s * s) N ≡ b → RootUp N (cond b s (s + 1))
    go s r true e = record { high = omega (arith, eqb-true); low = λ t q. below t q (eqb-true (s * s) N e) }
      where
        below : (t : ℕ) → s ≡ t + 1 → s * s ≡ N → t * t < N
        below t q f = let g : (t + 1) * (t + 1) ≡ N = rw q at f in omega arith
    go s r false e = record { high = omega (arith, r.high); low = λ t q. let g : s ≡ t = omega arith in rw (← g) (omega (arith, r.low, eqb-false)) }

root-pos : (N s : ℕ) → 1 ≤ N → Root N s → 1 ≤ s
root-pos N zero p r = absurd (omega (arith, r.high))
root-pos N (suc s) p r = omega arith

square : (s : ℕ) → 1 ≤ s → s ≤ s * s
square zero h = omega arith
square (suc s) h = omega arith

pub published-fits : (N : ℕ) → 1 ≤ N → Fits (published N) N
unfolding published root_up
published-fits N pos = go (root N) (root_is N) (eqb (root N * root N) N) refl (ltb (root N * root_up N) N) refl
  where
    go : (s : ℕ) → Root N s → (b : Bool) → eqb (s * s) N ≡ b → (d : Bool) → ltb (s * cond b s (s + 1)) N ≡ d
        → Fits (record { rows = cond d (s + 1) s; cols = cond b s (s + 1) }) N
    go s r true e true f = absurd (omega (arith, eqb-true, ltb-true))
    go s r true e false f =
        record { room = omega (arith, eqb-true); tight = omega (arith, eqb-true, root-pos N s pos r); narrow = omega (arith, eqb-true, square s (root-pos N s pos r)); some-column = root-pos N s pos r }
    go s r false e true f =
        record { room = omega (arith, r.high); tight = omega (arith, ltb-true, r.low); narrow = omega (arith, ltb-true, square s (root-pos N s pos r)); some-column = omega arith }
    go s r false e false f =
        record { room = omega (arith, ltb-false); tight = omega (arith, r.low, root-pos N s pos r, eqb-false); narrow = omega (arith, square s (root-pos N s pos r), r.low, eqb-false); some-column = omega arith }

-- a choice between two grids meets what both meet
either : (P : Grid → Type 0) (b : Bool) {g h : Grid} → (b ≡ true → P g) → (b ≡ false → P h) → P (cond b g h)
either P true p q = p refl
either P false p q = q refl

five-fits : Fits new_five 5
unfolding new_five
five-fits = omega arith

-- the published columns are the root rounded up
pub columns : (N : ℕ) → 1 ≤ N → RootUp N (published N).cols
unfolding published
columns N pos = root-up-is N pos

no-exchange : exchanged no_grid ≡ no_grid
unfolding exchanged no_grid
no-exchange = refl

-- exchanged, where rows are columns less one: a square of those rows was too small, so the columns were the root rounded up
exchanged-fits : (N : ℕ) → 1 ≤ N → Fits (exchanged (published N)) N
unfolding exchanged
exchanged-fits N pos = either (λ (g : Grid). Fits g N) (eqb ((published N).rows + 1) (published N).cols)
    (λ e. let c : (published N).cols ≡ (published N).rows + 1 = sym (eqb-true _ _ e) in
    go (published N).rows (published N).cols (published-fits N pos).room (published-fits N pos).narrow c ((columns N pos).low (published N).rows c))
    (λ e. published-fits N pos)
  where
    go : (m n : ℕ) → N ≤ m * n → n ≤ N → n ≡ m + 1 → m * m < N → Fits (record { rows = n; cols = m }) N
    go zero n room narrow e small = absurd (omega arith)
    go (suc m) n room narrow e small = let r : N ≤ suc m * (suc m + 1) = rw (← e) room in rw e (omega arith)

-- every mark's grid fits every length from 1 on
pub laid-fits : (mark N : ℕ) → 1 ≤ N → Fits (grid_by mark N) N
unfolding grid_by
laid-fits mark N pos = either (λ (g : Grid). Fits g N) (eqb mark 2)
    (λ e. exchanged-fits N pos)
    (λ e. either (λ (g : Grid). Fits g N) ((eqb mark 1 || eqb mark 3) && eqb N 5)
    (λ f. let five : N ≡ 5 = eqb-true N 5 (and_r (eqb mark 1 || eqb mark 3) _ f) in rw five five-fits)
    (λ f. published-fits N pos))

-- ---- marks of a list within one county
-- one of 0 to 2
pub mark-low : (mark N : ℕ) → mark_fits mark N ≡ true → mark ≤ 2
unfolding mark_fits
mark-low mark N e = ⊎_elim
    (λ (a : eqb mark 0 ≡ true). omega (arith, eqb-true mark 0 a))
    (λ b. ⊎_elim
    (λ (c : (eqb mark 1 && eqb N 5) ≡ true). omega (arith, eqb-true mark 1 (and_l (eqb mark 1) (eqb N 5) c)))
    (λ (c : (eqb mark 2 && leb 1 N) ≡ true). omega (arith, eqb-true mark 2 (and_l (eqb mark 2) (leb 1 N) c)))
    (or-e (eqb mark 1 && eqb N 5) (eqb mark 2 && leb 1 N) b))
    (or-e (eqb mark 0) ((eqb mark 1 && eqb N 5) || (eqb mark 2 && leb 1 N)) e)

-- that of a list laid now
pub new-mark-fits : (tall : Bool) (N : ℕ) → 1 ≤ N → mark_fits (new_mark tall N) N ≡ true
unfolding mark_fits new_mark
new-mark-fits true N some = le-leb 1 N some
new-mark-fits false N some = go (eqb N 5) refl
  where
    go : (b : Bool) → eqb N 5 ≡ b → (eqb (cond b 1 0) 0 || ((eqb (cond b 1 0) 1 && b) || (eqb (cond b 1 0) 2 && leb 1 N))) ≡ true
    go true e = refl
    go false e = refl

pub new-mark-small : (tall : Bool) (N : ℕ) → new_mark tall N < 256 ^ 1
unfolding new_mark
new-mark-small true N = omega arith
new-mark-small false N = go (eqb N 5)
  where
    go : (b : Bool) → cond b 1 0 < 256 ^ 1
    go true = omega arith
    go false = omega arith

-- it is 2 in a tall table, and in no other
pub new-mark-tall : (tall : Bool) (N : ℕ) → eqb (new_mark tall N) 2 ≡ tall
unfolding new_mark
new-mark-tall true N = refl
new-mark-tall false N = go (eqb N 5)
  where
    go : (b : Bool) → eqb (cond b 1 0) 2 ≡ false
    go true = refl
    go false = refl

-- ---- from four on, a list laid now has two columns or more, and two positions or more in each
abbrev Roomy : ℕ → Grid → Type 0
Roomy N g = (2 ≤ g.cols) × (2 * g.cols ≤ N)

square-roomy : (N n : ℕ) → 4 ≤ N → N ≢ 5 → RootUp N n → (2 ≤ n) × (2 * n ≤ N)
square-roomy N zero four other r = absurd (omega (arith, r.high))
square-roomy N (suc zero) four other r = absurd (omega (arith, r.high))
square-roomy N (suc (suc zero)) four other r = omega arith
square-roomy N (suc (suc (suc zero))) four other r = omega (arith, r.low 2 refl)
square-roomy N (suc (suc (suc (suc s)))) four other r = omega (arith, r.low (suc (suc (suc s))) (omega arith))

published-roomy : (N : ℕ) → 4 ≤ N → N ≢ 5 → Roomy N (published N)
unfolding published
published-roomy N four other = square-roomy N (root_up N) four other (root-up-is N (omega arith))

-- the published five is exchanged
five-exchanged : eqb ((published 5).rows + 1) (published 5).cols ≡ true
unfolding published root_up root
five-exchanged = refl

exchanged-roomy : (N : ℕ) → 4 ≤ N → Roomy N (exchanged (published N))
unfolding exchanged
exchanged-roomy N four = either (Roomy N) (eqb ((published N).rows + 1) (published N).cols)
    (λ e. let c : (published N).cols ≡ (published N).rows + 1 = sym (eqb-true _ _ e) in
    go (published N).rows (published N).cols (published-fits N (omega arith)).room c ((columns N (omega arith)).low (published N).rows c))
    (λ e. published-roomy N four (λ five. clash (sym e ∙ ap (λ (n : ℕ). eqb ((published n).rows + 1) (published n).cols) five ∙ five-exchanged)))
  where
    go : (m n : ℕ) → N ≤ m * n → n ≡ m + 1 → m * m < N → (2 ≤ m) × (2 * m ≤ N)
    go zero n room e small = absurd (omega arith)
    go (suc zero) n room e small = absurd (omega arith)
    go (suc (suc m)) n room e small = (omega arith, omega arith)

pub roomy : (tall : Bool) (N : ℕ) → 4 ≤ N → (2 ≤ (grid_by (new_mark tall N) N).cols) × (2 * (grid_by (new_mark tall N) N).cols ≤ N)
unfolding grid_by new_mark new_five
roomy true N four = exchanged-roomy N four
roomy false N four = go (eqb N 5) refl
  where
    go : (b : Bool) → eqb N 5 ≡ b → Roomy N (cond (eqb (cond b 1 0) 2) (exchanged (published N)) (cond ((eqb (cond b 1 0) 1 || eqb (cond b 1 0) 3) && b) new_five (published N)))
    go true e = omega (arith, eqb-true)
    go false e = published-roomy N four (eqb-false N 5 e)

-- ---- a mark's grid as the code finds it
pub by-five : (mark N : ℕ) → (mark ≡ 1) ⊎ (mark ≡ 3) → N ≡ 5 → new_five ≡ cond (leb N 64) (grid_by mark N) no_grid
unfolding grid_by
by-five mark N (inl e) five = rw (e, five)
by-five mark N (inr e) five = rw (e, five)

pub by-tall : (mark N : ℕ) → mark ≡ 2 → exchanged (cond (leb N 64) (published N) no_grid) ≡ cond (leb N 64) (grid_by mark N) no_grid
unfolding grid_by
by-tall mark N e = rw e (go (leb N 64))
  where
    go : (b : Bool) → exchanged (cond b (published N) no_grid) ≡ cond b (exchanged (published N)) no_grid
    go true = refl
    go false = no-exchange

pub by-published : (mark N : ℕ) → mark ≢ 2 → ((mark ≢ 1) × (mark ≢ 3)) ⊎ (N ≢ 5) → cond (leb N 64) (published N) no_grid ≡ cond (leb N 64) (grid_by mark N) no_grid
unfolding grid_by
by-published mark N wide (inl d) = rw (ne_eqb mark 2 wide, ne_eqb mark 1 d.0, ne_eqb mark 3 d.1)
by-published mark N wide (inr d) = rw (ne_eqb mark 2 wide, ne_eqb N 5 d, and-false (eqb mark 1 || eqb mark 3))

-- a list of no members has no column
no-column : (mark : ℕ) → (grid_by mark 0).cols ≡ 0
unfolding grid_by exchanged published root_up root
no-column mark = go (eqb mark 2) (eqb mark 1 || eqb mark 3)
  where
    go : (a b : Bool) → (cond a (exchanged (published 0)) (cond (b && eqb 0 5) new_five (published 0))).cols ≡ 0
    go true b = refl
    go false true = refl
    go false false = refl

some_fits : (mark N : ℕ) → 1 ≤ (grid_by mark N).cols → Fits (grid_by mark N) N
some_fits mark zero h = absurd (omega (arith, no-column mark))
some_fits mark (suc n) h = laid-fits mark (suc n) (omega arith)

-- where it has a column, it fits the length
pub taken-fits : (mark N : ℕ) (g : Grid) → g ≡ cond (leb N 64) (grid_by mark N) no_grid → 1 ≤ g.cols → Fits g N
unfolding no_grid
taken-fits mark N g e h = rw e (go (leb N 64) (rw e at h))
  where
    go : (b : Bool) → 1 ≤ (cond b (grid_by mark N) no_grid).cols → Fits (cond b (grid_by mark N) no_grid) N
    go true l = some_fits mark N l
    go false l = absurd (omega arith)

-- a length of five, by the two marks that a list of more than one county can have
pub fives-laid : FivesLaid
unfolding FivesLaid grid_by new_five exchanged published root_up root
fives-laid = (refl, refl)
