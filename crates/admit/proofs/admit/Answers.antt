use mathlib.Core.Path.{◌≡◌}
use mathlib.Core.Bool.{cond}
use lib.Dec.{eqb}
use borrow.Author.Tests.{eq-eqb, ne_eqb}
use Prim.Native.Nat.{◌+◌}
use native.Mathlib.Omega.{arith}
use Rattle.table.proofs.WellFormedLaws.{header, long, few-rows}
use Rattle.admit.proofs.AdmitLaws.{row_fits, link_fits, admitted}
use Rattle.admit.proofs.admit.Goals.{then-p-eq0, else-p-eq0}
use Rattle.admit.proofs.admit.Goals as goal

pub row_length-size-requires : goal.row_length-size-requires
row_length-size-requires c = (long c.requires.0, c.requires.0.header)

pub used-used-requires : goal.used-used-requires
used-used-requires c = long c.requires.0

pub first-first-requires : goal.first-first-requires
first-first-requires c = long c.requires.0

pub overflow_cast-first : goal.overflow_cast-first
overflow_cast-first c = omega (arith, c.first-first.ensures, few-rows c.requires.0, (header c.requires.0.header).first)

pub overflow_cast-count : goal.overflow_cast-count
overflow_cast-count c = omega (arith, c.used-used.ensures, few-rows c.requires.0)

pub overflow_add-row : goal.overflow_add-row
overflow_add-row c = omega (arith, c.used-used.ensures, few-rows c.requires.0)

pub add_row-requires : goal.add_row-requires
add_row-requires c =
    row_fits c.requires.0 c.requires.1 _ _ c.row_length-size.ensures c.used-used.ensures

pub link_row-requires : goal.link_row-requires
link_row-requires c =
    rw c.add_row.auto.t (link_fits c.requires.0 c.requires.1 _ _ c.row_length-size.ensures c.requires.2)

pub set_used-requires : goal.set_used-requires
set_used-requires c =
    omega (arith, c.link_row.auto.t, c.add_row.auto.t, long c.requires.0)

pub set_first-requires : goal.set_first-requires
set_first-requires c =
    omega (arith, c.set_used.auto.t, c.link_row.auto.t, c.add_row.auto.t, long c.requires.0)

pub returns : goal.returns
returns c =
    let a = c.args in
    let front : c.if-p-eq0.front ≡ cond (eqb a.p 0) (c.used-used.result + 1) c.first-first.result = elim c.if-p-eq0.branch [
      | then-p-eq0 w ↦ rw (eq-eqb _ _ w.if-p-eq0.true) w.front-is
      | else-p-eq0 w ↦ rw (ne_eqb _ _ w.if-p-eq0.false) w.front-is
    ] in
    admitted c.requires.0 c.requires.1 _ _ _ _ _ _ _ _ _ _ _ _ c.row_length-size.ensures c.used-used.ensures c.first-first.ensures c.row_behind.ensures front
    c.add_row.ensures c.link_row.ensures c.set_used.ensures c.set_first.ensures
