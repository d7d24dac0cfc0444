use mathlib.Core.Path.{refl}
use mathlib.Core.Logic.{inl, inr}
use native.Mathlib.Omega.{arith}
use Rattle.fields.specs.Layout.{epoch_of, list_of}
use Rattle.table.proofs.WellFormedLaws.{few-rows}
use Rattle.straight.proofs.lists_right.Goals as goal

pub list_right-requires : goal.list_right-requires
list_right-requires c = (omega (arith, c.requires.2, few-rows c.requires.0), c.row_at-first.ensures.1)

pub returns-then-other-eq1 : goal.returns-then-other-eq1
unfolding epoch_of list_of
returns-then-other-eq1 c =
    let f = rw (c.row_at-first.ensures.0, c.requires.2) at (c.list_right.ensures (c.if-not-list_right.false)) in
    λ e. rw c.if-other-eq1.true (record { epochs = (f.0, f.0); rows = (f.1, f.1); marks = (f.2, f.2); apart = inl refl })

pub list_right-requires-2 : goal.list_right-requires-2
list_right-requires-2 c = (omega (arith, c.requires.2, few-rows c.requires.0), c.row_at-second.ensures.1)

pub returns : goal.returns
unfolding epoch_of list_of
returns c =
    let f = rw (c.row_at-first.ensures.0, c.requires.2) at (c.list_right.ensures (c.if-not-list_right.false)) in
    let g = rw (c.row_at-second.ensures.0, c.requires.2) at (c.list_right-2.ensures (c.if-not-list_right-2.false)) in
    λ e.
    let d = rw (c.row_at-first.ensures.0, c.row_at-second.ensures.0) at (c.are_apart.ensures e) in
    record { epochs = (f.0, g.0); rows = (f.1, g.1); marks = (f.2, g.2); apart = inr d }
