use mathlib.Core.Path.{◌≡◌, refl, ◌∙◌, ap}
use mathlib.Core.Bool.{Bool, ◌&&◌}
use Prim.Native.Nat.{ℕ}
use native.Mathlib.Omega.{arith}
use borrow.Author.Tests.{eq-eqb}
use lib.ListN.{length}
use Rattle.sets.specs.Upto.{every}
use Rattle.table.specs.WellFormed.{is_county}
use Rattle.counties.specs.Counties.{county_at}
use Rattle.founding.proofs.FoundingLaws.{places-turn}
use Rattle.founding.proofs.counties_right.Goals as goal

pub loop-place-init : goal.loop-place-init
unfolding every
loop-place-init c = refl

pub loop-place-preserved : goal.loop-place-preserved
loop-place-preserved c =
    let l = c.loop-place in
    places-turn c.args.counties.now l.place-index l.ok c.both-ok.result c.loop-place-test.true l.invariant (c.both-ok.ensures ∙ ap (λ (b : Bool). l.ok && b) c.is_county.ensures)

pub returns : goal.returns
returns c =
    let l = c.loop-place in
    let a = c.args in
    let all : l.place-index ≡ a.n = omega (arith, c.loop-place-test.false, l.auto.place-index-end, c.if-counties-n.false) in
    rw (eq-eqb (length a.counties.now) a.n c.if-counties-n.false) (l.invariant ∙ ap (λ (n : ℕ). every n (λ j. is_county (county_at a.counties.now j))) all)
