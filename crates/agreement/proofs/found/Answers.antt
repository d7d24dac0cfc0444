use mathlib.Core.Path.{◌≡◌, sym, ◌∙◌, ap}
use Prim.Native.Nat.{◌+◌}
use native.Mathlib.Omega.{arith}
use Rattle.bools.proofs.BoolLaws.{clash}
use Rattle.fields.proofs.FieldLaws.{equal, equal-same}
use Rattle.fields.specs.Layout.{get, epoch, list, epoch_of, list_of, is_empty}
use Rattle.table.proofs.WellFormedLaws.{few-rows}
use Rattle.agreement.proofs.AgreeLaws.{apart_more, join-none, join-like, join-listed}
use Rattle.agreement.proofs.found.Goals.{After-epoch, After-epoch-epoch, After-list-list, After-list-own, Then-epoch, then-epoch+else-eq+else-not-is_empty, else-epoch}
use Rattle.agreement.proofs.found.Goals as goal

-- list and epoch of row k + 1, and of row j
own : (c : After-list-own) → let a = c.args in c.list-own.result ≡ list_of a.t.now (a.k + 1)
unfolding list_of
own c = c.list-own.ensures ∙ ap list c.row_of-row.ensures.0

its-epoch : (c : After-epoch-epoch) → let a = c.args in c.epoch-epoch.result ≡ epoch_of a.t.now (a.k + 1)
unfolding epoch_of
its-epoch c = c.epoch-epoch.ensures ∙ ap (get epoch) c.row_of-row.ensures.0

other : (c : After-list-list) → c.list-list.result ≡ list_of c.args.t.now c.loop-j.j
unfolding list_of
other c = c.list-list.ensures ∙ ap list c.row_of-other.ensures.0

other-epoch : (c : After-epoch) → c.epoch.result ≡ epoch_of c.args.t.now c.loop-j.j
unfolding epoch_of
other-epoch c = c.epoch.ensures ∙ ap (get epoch) c.row_of-other.ensures.0

-- the two are of one epoch
alike : (c : Then-epoch) → let a = c.args in epoch_of a.t.now (a.k + 1) ≡ epoch_of a.t.now c.loop-j.j
unfolding epoch_of
alike c = sym (c.epoch-epoch.ensures ∙ ap (get epoch) c.row_of-row.ensures.0) ∙ c.if-epoch.true ∙ c.epoch.ensures ∙ ap (get epoch) c.row_of-other.ensures.0

pub overflow_add-k : goal.overflow_add-k
overflow_add-k c = omega (arith, few-rows c.requires.0)

pub loop-j-init : goal.loop-j-init
loop-j-init c = λ i w h q. c.requires.3 i w h (sym (its-epoch c) ∙ q)

pub returns-then-eq : goal.returns-then-eq
unfolding equal
returns-then-eq c all =
    let a = c.args in
    join-like a.t.now a.k c.loop-j.j (omega (arith, c.loop-j-test.true)) (alike (goal.at.returns-then-eq c).Then-epoch) all
    (sym (own (goal.at.returns-then-eq c).After-list-own) ∙ (equal-same _ _).0 (sym c.eq.ensures ∙ c.if-eq.true) ∙ other (goal.at.returns-then-eq c).After-list-list)

pub returns-then-not-is_empty : goal.returns-then-not-is_empty
unfolding equal
returns-then-not-is_empty c all =
    let a = c.args in
    c.is_empty-then-not-is_empty.ensures ∙ ap is_empty (own (goal.at.returns-then-not-is_empty c).After-list-own)
    ∙ join-listed a.t.now a.k c.loop-j.j (omega (arith, c.loop-j-test.true)) (alike (goal.at.returns-then-not-is_empty c).Then-epoch) all
    (ap is_empty (sym (other (goal.at.returns-then-not-is_empty c).After-list-list)) ∙ sym c.is_empty.ensures ∙ c.if-not-is_empty.true)
    (λ q. clash (sym c.if-eq.false ∙ c.eq.ensures ∙ (equal-same _ _).1 (own (goal.at.returns-then-not-is_empty c).After-list-own ∙ q ∙ sym (other (goal.at.returns-then-not-is_empty c).After-list-list))))

pub loop-j-preserved : goal.loop-j-preserved
unfolding list_of
loop-j-preserved c =
    let l = c.loop-j in
    apart_more _ _ _ l.j l.invariant (λ q. elim c.if-epoch.branch [
      | then-epoch+else-eq+else-not-is_empty w ↦ ap is_empty (sym (w.list-list.ensures ∙ ap list c.row_of-other.ensures.0)) ∙ sym w.is_empty.ensures ∙ w.if-not-is_empty.false
      | else-epoch w ↦ absurd (w.if-epoch.false (q ∙ sym (other-epoch (goal.at.loop-j-preserved c).After-epoch)))
    ])

pub returns : goal.returns
returns c all =
    let a = c.args in
    join-none a.t.now a.k (λ i w h q. c.loop-j.invariant i w (omega (arith, c.loop-j-test.false)) (its-epoch (goal.at.returns c).After-epoch-epoch ∙ q))
