-- What a yes and a no say of the first no; what a result tells.
use mathlib.Core.Path.{◌≡◌, refl}
use mathlib.Core.Bool.{Bool, true, false, cond}
use mathlib.Core.List.{List, [], ◌∷◌, ◌++◌}
use Prim.Native.Nat.{ℕ, suc, ◌/◌, ◌%◌, ◌^◌, ◌≤◌, ◌<◌}
use native.Mathlib.Omega.{arith}
use lib.Pow.{high, low}
use borrow.Author.Tests.{eq-eqb, ne_eqb}
use lib.Dec.{eqb}
use Rattle.asking.specs.Asking.{Question, first_no, before, result_number}
use Rattle.asking.specs.Refusals.{refusal_number}
use Rattle.asking.specs.declared.Refusal.{Refusal}
use Rattle.asking.specs.declared.Refusal.TheVariants.{NotWellFormed, UnknownRow, NotAnswering, WrongRange, WrongSpace, NoQuorum, NotCurrent, AtLimit, StaleSource, NotWaiting, WrongNames, WrongSizes, NameTaken, TableFull, NotPlain, UnknownFile, NoChart, ClubSpent, ShareSpent, WrongCounty}

-- where no answer is no, the first is yes
pub yes-first : (n : ℕ) (x : Bool) (qs : List Question) → first_no (record { ask = suc n; yes = x } ∷ qs) ≡ 0 → (x ≡ true) × (first_no qs ≡ 0)
unfolding first_no
yes-first n true qs h = (refl, h)
yes-first n false qs h = absurd (omega arith)

-- after a yes the first no is among the others
pub no-first : (n : ℕ) (x : Bool) (qs : List Question) → x ≡ true → first_no (record { ask = n; yes = x } ∷ qs) ≡ first_no qs
unfolding first_no
no-first n x qs e = rw e

-- questions that come after a no are not asked
pub asked-more : (qs rest : List Question) → 1 ≤ first_no qs → first_no (qs ++ rest) ≡ first_no qs
unfolding first_no
asked-more [] rest h = absurd (omega arith)
asked-more (q ∷ qs) rest h = go q.yes refl (asked-more qs rest)
  where
    go : (b : Bool) → q.yes ≡ b → (1 ≤ first_no qs → first_no (qs ++ rest) ≡ first_no qs) → cond q.yes (first_no (qs ++ rest)) q.ask ≡ cond q.yes (first_no qs) q.ask
    go true e ih = let g : 1 ≤ first_no qs = rw e at h in rw e (ih g)
    go false e ih = rw e refl

-- n itself is not among those before it, a question of another number is
pub before_here : (n : ℕ) (x : Bool) (qs : List Question) → before n (record { ask = n; yes = x } ∷ qs) ≡ []
unfolding before
before_here n x qs = rw (eq-eqb n n refl)

pub before-other : (n m : ℕ) (x : Bool) (qs : List Question) → (m ≡ n → ⊥) → before n (record { ask = m; yes = x } ∷ qs) ≡ record { ask = m; yes = x } ∷ before n qs
unfolding before
before-other n m x qs d = rw (ne_eqb m n d)

-- where no answer is no, none before a number is
pub before-yes : (n : ℕ) (qs : List Question) → first_no qs ≡ 0 → first_no (before n qs) ≡ 0
unfolding first_no before
before-yes n [] h = refl
before-yes n (q ∷ qs) h = go (before-yes n qs) (eqb q.ask n) q.yes refl
  where
    go : (first_no qs ≡ 0 → first_no (before n qs) ≡ 0) → (x y : Bool) → q.yes ≡ y → first_no (cond x [] (q ∷ before n qs)) ≡ 0
    go more true y e = refl
    go more false true e = rw e (more (rw e at h))
    go more false false e = rw e (rw e at h)

-- refusal and value can be read off the result
pub result-refusal : (refusal value : ℕ) → value < 2 ^ 32 → result_number refusal value / 2 ^ 32 ≡ refusal
result-refusal refusal value h = high refusal 32 h

pub result_value : (refusal value : ℕ) → value < 2 ^ 32 → result_number refusal value % 2 ^ 32 ≡ value
result_value refusal value h = low refusal 32 h

-- a refusal has a number
pub some-number : (r : Refusal) → 1 ≤ refusal_number r
some-number NotWellFormed = omega arith
some-number UnknownRow = omega arith
some-number NotAnswering = omega arith
some-number WrongRange = omega arith
some-number WrongSpace = omega arith
some-number NoQuorum = omega arith
some-number NotCurrent = omega arith
some-number AtLimit = omega arith
some-number StaleSource = omega arith
some-number NotWaiting = omega arith
some-number WrongNames = omega arith
some-number WrongSizes = omega arith
some-number NameTaken = omega arith
some-number TableFull = omega arith
some-number NotPlain = omega arith
some-number UnknownFile = omega arith
some-number NoChart = omega arith
some-number ClubSpent = omega arith
some-number ShareSpent = omega arith
some-number WrongCounty = omega arith
