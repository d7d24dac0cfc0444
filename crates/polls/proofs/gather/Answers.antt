use mathlib.Core.Bool.{Bool, true, false, not, cond, ◌&&◌}
use mathlib.Core.Path.{◌≡◌, refl, sym, ap, ◌∙◌, fun_ext}
use mathlib.Core.List.{List}
use Prim.Native.Nat.{ℕ, ◌≤◌}
use native.Mathlib.Omega.{arith}
use lib.Dec.{eqb}
use lib.ListN.{length, length-set}
use Rattle.places.proofs.PlaceLaws.{placed-none, placed-more, gained-more}
use Rattle.protocol.specs.Polls.{polled}
use Rattle.fields.specs.declared.Laid.{Laid}
use Rattle.fields.specs.Layout.{get, mark, version, desired, epoch, list, no_list, is_empty, used_of, file_length_of, stale_of, version_of, desired_of, epoch_of, list_of}
use Rattle.fields.proofs.FieldLaws.{copy_is}
use Rattle.rows.specs.declared.Members.{Members}
use Rattle.sets.proofs.SetLaws.{has-empty, has_within}
use Rattle.sets.proofs.MemberLaws.{only, none-taken, all-taken, at-hand, in-set, one-taken}
use Rattle.sets.specs.Sets.{has, no_row, joining}
use Rattle.sets.specs.Upto.{Within}
use Rattle.polls.proofs.gather.Goals.{After-copy_of-copy, In-Some}
use Rattle.polls.proofs.gather.Goals as goal

-- in a turn the lowest row left is at hand: a used row
hand : (c : In-Some) → Within 64 c.in-Some.i
hand c = let s = c.in-Some.ensures.steps in (at-hand c.loop-i.invariant.1 s.0 s.1).0

used : (c : In-Some) → Within (used_of c.args.t.now) c.in-Some.i
used c =
    let s = c.in-Some.ensures.steps in
    has_within (used_of c.args.t.now) c.args.answering.bits _ c.requires.3
    (ap (λ (m : Members). has m.left.bits c.in-Some.i) (sym (c.into_iter-i-iterator.ensures.into_iter_gives ∙ c.members-i-items.ensures)) ∙ in-set c.loop-i.invariant.1 s.0 s.1)

-- and its copy has room for the numbers
copy-room : (c : After-copy_of-copy) → 12 ≤ length c.copy_of-copy.result.now
copy-room c = omega (arith, c.copy_of-copy.ensures.1, copy_is (file_length_of c.args.t.now))

pub loop-i-init : goal.loop-i-init
unfolding polled no_row
loop-i-init c = (no_row, none-taken _, has-empty, has-empty, placed-none (λ i. 0), placed-none (λ i. 0), placed-none (λ i. 0), refl, refl, refl)

pub row_of-row-requires : goal.row_of-row-requires
row_of-row-requires c = (c.requires.0, used c)

pub copy_of-copy-requires : goal.copy_of-copy-requires
copy_of-copy-requires c = let p = c.requires in (p.0, p.1, used (goal.at.copy_of-copy-requires c).In-Some, p.2)

pub list-list-requires : goal.list-list-requires
list-list-requires c = c.row_of-row.ensures.1

pub is_stale-requires : goal.is_stale-requires
is_stale-requires c = copy-room (goal.at.is_stale-requires c).After-copy_of-copy

pub overflow_sub-k : goal.overflow_sub-k
overflow_sub-k c = omega (arith, hand (goal.at.overflow_sub-k c).In-Some)

pub version-requires : goal.version-requires
version-requires c = copy-room (goal.at.version-requires c).After-copy_of-copy

pub offset_bounds-p-k : goal.offset_bounds-p-k
offset_bounds-p-k c = omega (arith, hand (goal.at.offset_bounds-p-k c).In-Some)

pub bounds-p-k : goal.bounds-p-k
bounds-p-k c = omega (arith, hand (goal.at.bounds-p-k c).In-Some)

pub desired-requires : goal.desired-requires
desired-requires c = copy-room (goal.at.desired-requires c).After-copy_of-copy

pub offset_bounds-p-k-in-loop-i : goal.offset_bounds-p-k-in-loop-i
offset_bounds-p-k-in-loop-i c = omega (arith, hand (goal.at.offset_bounds-p-k-in-loop-i c).In-Some)

pub bounds-p-k-in-loop-i : goal.bounds-p-k-in-loop-i
bounds-p-k-in-loop-i c = omega (arith, hand (goal.at.bounds-p-k-in-loop-i c).In-Some)

pub epoch-requires : goal.epoch-requires
epoch-requires c = c.row_of-row.ensures.1

pub offset_bounds-p-k-in-loop-i-2 : goal.offset_bounds-p-k-in-loop-i-2
offset_bounds-p-k-in-loop-i-2 c = omega (arith, hand (goal.at.offset_bounds-p-k-in-loop-i-2 c).In-Some)

pub bounds-p-k-in-loop-i-2 : goal.bounds-p-k-in-loop-i-2
bounds-p-k-in-loop-i-2 c = omega (arith, hand (goal.at.bounds-p-k-in-loop-i-2 c).In-Some)

pub loop-i-preserved : goal.loop-i-preserved
unfolding polled stale_of version_of desired_of epoch_of list_of
loop-i-preserved c =
    let l = c.loop-i in
    let i = c.in-Some.i in
    let s = l.invariant.0 in
    let t = c.in-Some.ensures.steps in
    let w = hand (goal.at.loop-i-preserved c).In-Some in
    let row = c.row_of-row.ensures.0 in
    let copy = c.copy_of-copy.ensures.0 in (
      joining s (only i),
      one-taken l.invariant.1 t.0 t.1 (t.2, t.3),
      c.gain-stale.ensures ∙ gained-more s i w _ _ _ l.invariant.2 (c.is_stale.ensures ∙ ap (λ (b : List ℕ). eqb (get mark b) 1) copy),
      c.gain-listed.ensures ∙ gained-more s i w _ _ _ l.invariant.3 (ap not (c.is_empty.ensures ∙ ap is_empty (c.list-list.ensures ∙ ap list row))),
      placed-more s i w _ _ _ l.invariant.7 l.invariant.4 (c.version.ensures ∙ ap (get version) copy),
      placed-more s i w _ _ _ l.invariant.8 l.invariant.5 (c.desired.ensures ∙ ap (get desired) copy),
      placed-more s i w _ _ _ l.invariant.9 l.invariant.6 (c.epoch.ensures ∙ ap (get epoch) row),
      simp length-set l.invariant.7,
      simp length-set l.invariant.8,
      simp length-set l.invariant.9,
    )

-- a row that did not answer has no list
has-list : (b : Bool) (l : Laid) → (b && not (is_empty l)) ≡ not (is_empty (cond b l no_list))
unfolding is_empty no_list
has-list true l = refl
has-list false l = refl

pub returns : goal.returns
unfolding polled
returns c =
    let l = c.loop-i in
    let a = c.args in
    let start : has c.into_iter-i-iterator.result.left.bits ≡ has a.answering.bits = ap (λ (m : Members). has m.left.bits) (c.into_iter-i-iterator.ensures.into_iter_gives ∙ c.members-i-items.ensures) in
    let all = sym start ∙ all-taken l.invariant.1 (omega arith) c.in-None.ensures.steps.0 in
    rw all (record {
      stale = l.invariant.2;
      versions = l.invariant.4;
      desired = l.invariant.5;
      epochs = l.invariant.6;
      listed = l.invariant.3 ∙ fun_ext (λ i. has-list (l.invariant.0 i) (list_of a.t.now i));
    })
