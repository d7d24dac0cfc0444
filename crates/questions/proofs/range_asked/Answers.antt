use mathlib.Core.Bool.{true, false, ◌&&◌}
use mathlib.Core.List.{[]}
use mathlib.Core.Path.{◌≡◌, refl, sym, ◌∙◌, ap}
use Prim.Native.Nat.{ℕ, ◌+◌}
use lib.Dec.{leb}
use Rattle.std.proofs.lemmas.Result.{err_from_is_err_and}
use Rattle.asking.proofs.AskingLaws.{some-number}
use Rattle.questions.proofs.QuestionLaws.{range-no, range-yes}
use Rattle.table.proofs.WellFormedLaws.{sized, long}
use Rattle.protocol.specs.Calls.{in_file}
use Rattle.questions.proofs.range_asked.Goals.{After-in_range}
use Rattle.questions.proofs.range_asked.Goals as goal

-- question 4, as it was asked
fits : (c : After-in_range) → let a = c.args in c.in_range.result ≡ in_file a.t.now a.offset a.count
unfolding in_file
fits c =
    let a = c.args in
    c.in_range.ensures ∙ ap (λ (n : ℕ). leb 1 a.count && leb (a.offset + a.count) n) c.file_length.ensures

pub returns-in_err-coordinator_asked : goal.returns-in_err-coordinator_asked
returns-in_err-coordinator_asked c =
    let p = err_from_is_err_and c.from_residual.result c.from_residual.ensures.1 in
    let a = c.args in
    rw (p.1, p.2) (range-no _ _ _ a.q a.offset a.count _ c.in_err-coordinator_asked.ensures (some-number _))

pub in_group-requires : goal.in_group-requires
in_group-requires c = long (sized c.requires)

pub returns-then-not-in_group : goal.returns-then-not-in_group
returns-then-not-in_group c =
    let a = c.args in
    range-yes _ _ _ a.q a.offset a.count false _ (sym c.in_ok-coordinator_asked.ensures) c.if-not-in_group.ensures refl

pub file_length-requires : goal.file_length-requires
file_length-requires c = long (sized c.requires)

pub returns-then-not-in_range : goal.returns-then-not-in_range
returns-then-not-in_range c =
    let a = c.args in
    range-yes _ _ _ a.q a.offset a.count true false (sym c.in_ok-coordinator_asked.ensures) c.if-not-in_group.ensures (sym c.if-not-in_range.true ∙ fits (goal.at.returns-then-not-in_range c).After-in_range)

pub returns : goal.returns
returns c =
    let a = c.args in
    range-yes _ _ _ a.q a.offset a.count true true (sym c.in_ok-coordinator_asked.ensures) c.if-not-in_group.ensures (sym c.if-not-in_range.false ∙ fits (goal.at.returns c).After-in_range)
