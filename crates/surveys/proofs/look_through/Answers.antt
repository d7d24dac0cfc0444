use Rattle.surveys.proofs.SurveyLaws.{seen_first, seen_more, seen_all}
use Rattle.table.proofs.WellFormedLaws.{header, long}
use native.Mathlib.Omega.{arith}
use Prim.Native.Nat.{◌<◌}
use Rattle.surveys.proofs.look_through.Goals.{In-loop-k}
use Rattle.surveys.proofs.look_through.Goals as goal

-- there are eight files at most
eight : (c : In-loop-k) → c.loop-k.k < 8
eight c =
    omega (arith, c.loop-k-test.true, c.files-n.ensures, (header c.requires.0.header).files)

pub files-n-requires : goal.files-n-requires
files-n-requires c = long c.requires.0

pub loop-k-init : goal.loop-k-init
loop-k-init c = seen_first c.args.t.now c.args.s.bits c.args.first c.requires.3 c.state_of-files.result c.state_of-files.ensures

pub overflow_add-k : goal.overflow_add-k
overflow_add-k c = omega (arith, eight c)

pub tallied-found-requires : goal.tallied-found-requires
tallied-found-requires c = (c.requires.0, c.requires.1, omega (arith, c.loop-k-test.true, c.files-n.ensures), c.requires.2)

pub offset_bounds-files-k : goal.offset_bounds-files-k
offset_bounds-files-k c = omega (arith, eight (goal.at.offset_bounds-files-k c).In-loop-k)

pub bounds-files-k : goal.bounds-files-k
bounds-files-k c = omega (arith, eight (goal.at.bounds-files-k c).In-loop-k)

pub loop-k-preserved : goal.loop-k-preserved
loop-k-preserved c =
    let l = c.loop-k in
    seen_more _ _ l.k l.files l.all l.invariant (eight (goal.at.loop-k-preserved c).In-loop-k) _ c.tallied-found.ensures _ c.state_of.ensures _ c.both-all.ensures

pub returns : goal.returns
returns c =
    let l = c.loop-k in
    seen_all _ _ l.k l.files l.all l.invariant (omega (arith, c.loop-k-test.false, c.files-n.ensures, (header c.requires.0.header).files))
