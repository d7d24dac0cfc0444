use mathlib.Core.Path.{◌≡◌, ◌∙◌, ap}
use Prim.Native.Nat.{◌≤◌}
use native.Mathlib.Omega.{arith}
use lib.ListN.{length}
use Rattle.fields.specs.Layout.{rows_end, used_of}
use Rattle.table.proofs.WellFormedLaws.{header, long, rows_in}
use Rattle.table.specs.WellFormed.{unused_zero}
use Rattle.octets.proofs.CodeLaws.{tail-is}
use Rattle.octets.specs.Bytes.{all_zero}
use Rattle.wellformed.proofs.unused_zero.Goals.{After-rows_end-end}
use Rattle.wellformed.proofs.unused_zero.Goals as goal

-- where the used rows end, within the table
end_is : (c : After-rows_end-end) → let t = c.args.t.now in c.rows_end-end.result ≡ rows_end t (used_of t)
end_is c = c.rows_end-end.ensures ∙ ap (rows_end c.args.t.now) c.used.ensures

inside : (c : After-rows_end-end) → c.rows_end-end.result ≤ length c.args.t.now
inside c = rw (end_is c) (rows_in c.requires (used_of c.args.t.now) (header c.requires.header).used.1)

pub used-requires : goal.used-requires
used-requires c = long c.requires

pub rows_end-end-requires : goal.rows_end-end-requires
rows_end-end-requires c =
    let p = c.requires in (long p, p.header, rw c.used.ensures (header p.header).used.1)

pub slice_bounds-all_blank-count : goal.slice_bounds-all_blank-count
slice_bounds-all_blank-count c = omega (arith, inside c)

pub slice_bounds-all_blank-start : goal.slice_bounds-all_blank-start
slice_bounds-all_blank-start c = omega (arith, inside c)

pub returns : goal.returns
unfolding unused_zero
returns c = c.all_blank.ensures ∙ ap all_zero (tail-is _ _ _ (end_is (goal.at.returns c).After-rows_end-end))
