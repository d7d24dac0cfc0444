use mathlib.Core.Path.{sym, ◌∙◌, ap}
use Prim.Native.Nat.{ℕ, ◌≤◌}
use native.Mathlib.Omega.{arith}
use Rattle.fields.specs.Layout.{list, no_list, row_bytes, list_of}
use Rattle.fields.proofs.FieldLaws.{no-row-no-list}
use Rattle.sets.proofs.UptoLaws.{lowest-in}
use Rattle.sets.specs.Sets.{has}
use Rattle.sets.specs.Upto.{lowest}
use Rattle.verdicts.proofs.list_of.Goals.{Else-leader-eq0}
use Rattle.verdicts.proofs.list_of.Goals as goal

-- some row is found
found : (c : Else-leader-eq0) → 1 ≤ lowest 64 (has c.args.leaders.bits)
found c = let one : 1 ≤ c.lowest-leader.result = omega arith in rw c.lowest-leader.ensures at one

pub returns-then-leader-eq0 : goal.returns-then-leader-eq0
unfolding no_list
returns-then-leader-eq0 c =
    let t = c.args.t.now in
    sym (ap (list_of t) (sym c.lowest-leader.ensures ∙ c.if-leader-eq0.true) ∙ no-row-no-list t)

pub row_of-requires : goal.row_of-requires
row_of-requires c =
    (c.requires.0, rw c.lowest-leader.ensures (c.requires.1 _ (lowest-in 64 _ (found c)).1))

pub returns : goal.returns
unfolding list_of
returns c =
    let t = c.args.t.now in
    c.list.ensures ∙ ap list c.row_of.ensures.0 ∙ ap (λ (x : ℕ). list (row_bytes t x)) c.lowest-leader.ensures
