use mathlib.Core.Path.{◌≡◌, sym, ◌∙◌, ap}
use mathlib.Core.Bool.{Bool, true, false, not}
use Prim.Native.Nat.{ℕ}
use native.Mathlib.Omega.{arith}
use borrow.Author.Tests.{not-true, not-false}
use Rattle.sets.specs.Upto.{every, some, lowest}
use Rattle.sets.specs.Sets.{has, losing}
use Rattle.charting.specs.Charts.{smallest}
use Rattle.columns.proofs.ColumnLaws.{asked, by-columns}
use Rattle.columns.proofs.is_smallest.Goals.{After-with_first-c, Else-is_empty, Else-is_empty-2, Else-not-fills}
use Rattle.columns.proofs.is_smallest.Goals as goal

-- what the columns of the set say
said : (c : After-with_first-c) → let a = c.args in let r = c.with_first-c.result in
    asked a.g.cols (has r.touched.bits) (has r.twice.bits) (has r.whole.bits) ≡ smallest a.g a.length (has a.set.bits)
said c =
    by-columns c.args.g c.args.length (has c.args.set.bits) c.requires.0.some-column (omega (arith, c.requires.0.narrow)) _ _ _ c.with_first-c.ensures

-- every column is touched; one is whole; one has two members
all : (c : Else-not-fills) → every c.args.g.cols (has c.with_first-c.result.touched.bits) ≡ true
all c = sym c.fills.ensures ∙ c.if-not-fills.false

one : (c : Else-is_empty) → some 64 (has c.with_first-c.result.whole.bits) ≡ true
one c = not-false _ (sym c.is_empty.ensures ∙ c.if-is_empty.false)

two : (c : Else-is_empty-2) → some 64 (has c.with_first-c.result.twice.bits) ≡ true
two c = not-false _ (sym c.is_empty-2.ensures ∙ c.if-is_empty-2.false)

pub returns-then-not-fills : goal.returns-then-not-fills
returns-then-not-fills c =
    let e : every _ _ ≡ false = sym c.fills.ensures ∙ c.if-not-fills.true in rw e at (said (goal.at.returns-then-not-fills c).After-with_first-c)

pub returns-then-is_empty : goal.returns-then-is_empty
returns-then-is_empty c =
    let e : some 64 _ ≡ false = not-true _ (sym c.is_empty.ensures ∙ c.if-is_empty.true) in
    rw (all (goal.at.returns-then-is_empty c).Else-not-fills, e) at (said (goal.at.returns-then-is_empty c).After-with_first-c)

pub returns-then-is_empty-2 : goal.returns-then-is_empty-2
returns-then-is_empty-2 c =
    let e : some 64 _ ≡ false = not-true _ (sym c.is_empty-2.ensures ∙ c.if-is_empty-2.true) in
    rw (all (goal.at.returns-then-is_empty-2 c).Else-not-fills, one (goal.at.returns-then-is_empty-2 c).Else-is_empty, e) at (said (goal.at.returns-then-is_empty-2 c).After-with_first-c)

pub returns : goal.returns
returns c =
    c.is_empty-3.ensures
    ∙ ap (λ (s : ℕ → Bool). not (some 64 s)) (c.rest.ensures.0 ∙ ap (λ (s : ℕ → Bool). losing s (lowest 64 s)) c.joined.ensures)
    ∙ (rw (all (goal.at.returns c).Else-not-fills, one (goal.at.returns c).Else-is_empty, two (goal.at.returns c).Else-is_empty-2) at (said (goal.at.returns c).After-with_first-c))
