use mathlib.Core.Bool.{Bool, true, false, not, cond, ◌&&◌, and-false}
use mathlib.Core.Path.{◌≡◌, refl, sym, ◌∙◌, ap, subst}
use mathlib.Core.List.{List}
use Prim.Native.Nat.{ℕ, ◌-◌, ◌^◌, ◌<◌}
use native.Mathlib.Omega.{arith}
use borrow.Author.Tests.{eqb-true}
use lib.ListN.{length, take}
use lib.Seq.{take_all}
use Rattle.settle.proofs.SettleLaws.{sure-held, frame-is, choice-of, try-in, works-on-try, works-on-all, alone}
use Rattle.verdicts.specs.declared.Verdict.{Verdict}
use Rattle.verdicts.specs.Judged.{Judged}
use Rattle.protocol.specs.Calls.{answers}
use Rattle.protocol.specs.Polls.{polled, own_try}
use Rattle.counties.specs.Counties.{Frame, list_quorum, list_choice}
use Rattle.grouping.specs.Frames.{FrameOf}
use Rattle.grouping.specs.declared.Frame.{Frame as Shown}
use Rattle.table.proofs.ChainLaws.{order-length}
use Rattle.fields.proofs.FieldLaws.{equal, equal-same}
use Rattle.table.proofs.WellFormedLaws.{newest, sized, few-rows}
use Rattle.table.proofs.FormLaws.{formed}
use Rattle.table.specs.Chain.{frame_of}
use Rattle.fields.specs.Layout.{list, no_list, is_empty, used_of, name_of, list_of}
use Rattle.bools.proofs.BoolLaws.{and_l, and_r, and_i}
use Rattle.sets.proofs.SetLaws.{has_within, within-lt}
use Rattle.sets.specs.Sets.{has, cut_to}
use Rattle.sets.specs.Upto.{Within, count}
use Rattle.settle.proofs.settle.Goals.{After-cut-tried, then-part+else-both+else-quorum_held, else-part}
use Rattle.settle.proofs.settle.Goals as goal

-- the coordinator's row is a used one
own-used : (c : After-cut-tried) → Within (used_of c.args.t.now) c.args.c
own-used c = has_within (used_of c.args.t.now) c.args.answering.bits c.args.c c.requires.2 c.requires.3

-- the coordinator's own list, and its choice
own_is : (c : After-cut-tried) → c.list-own.result ≡ list_of c.args.t.now c.args.c
unfolding list_of
own_is c = c.list-own.ensures ∙ ap list c.row_of-row.ensures.0

chosen_is : (c : After-cut-tried) → let a = c.args in
    has c.chosen_unless-chosen.result.bits ≡ list_choice a.kind (frame_of a.t.now) (list_of a.t.now a.c) (name_of a.t.now a.c)
chosen_is c =
    c.chosen_unless-chosen.ensures
    ∙ choice-of c.args.kind c.args.c _ _ c.requires.0 c.row_of-row.ensures.0 c.list-own.ensures c.name.ensures

-- over the list that it says it has
chosen-said : (c : After-cut-tried) → let a = c.args in
    has c.chosen_unless-chosen.result.bits ≡ list_choice a.kind (frame_of a.t.now) ((answers a.t.now a.q a.answering.bits).list a.c) (name_of a.t.now a.c)
unfolding answers polled
chosen-said c =
    chosen_is c
    ∙ ap (λ (b : Bool). list_choice c.args.kind (frame_of c.args.t.now) (cond b (list_of c.args.t.now c.args.c) no_list) (name_of c.args.t.now c.args.c)) (sym c.requires.3)

-- P is tried first
tried : (c : After-cut-tried) → let a = c.args in
    has c.cut-tried.result.bits ≡ own_try a.kind (frame_of a.t.now) (answers a.t.now a.q a.answering.bits) a.c (name_of a.t.now a.c) (has a.answering.bits)
unfolding own_try
tried c =
    let a = c.args in
    c.cut-tried.ensures ∙ ap (λ (f : ℕ → Bool). cut_to f (has a.answering.bits)) (chosen-said c)

-- its rows are used ones
tried-used : (c : After-cut-tried) → c.cut-tried.result.bits < 2 ^ used_of c.args.t.now
tried-used c =
    within-lt (used_of c.args.t.now) c.cut-tried.result.bits (few-rows (sized c.requires.0.formed)) (omega arith)
    (λ i m. has_within _ c.args.answering.bits i c.requires.2 (try-in c.args.kind c.args.t.now c.args.q c.args.c c.args.answering.bits c.cut-tried.result.bits (tried c) i m))

-- as many rows stand in the chain as are used
long-chain : {t : List ℕ} {f : Shown} → FrameOf t f → length f.chain ≡ used_of t
long-chain {t} o = ap length o.order ∙ order-length t o.formed

-- the whole table as a part of itself
lent-all : (xs : List ℕ) → take (length xs - 0) xs ≡ xs
lent-all xs = take_all (length xs - 0) xs (omega arith)

-- what a poll of P says of it, and a poll of the rows that answered
part : (c : After-cut-tried) (v : Verdict) → let a = c.args in let p = c.cut-tried.result.bits in
    Judged (answers (take (length a.t.now - 0) a.t.now) a.q p) (has p) v → Judged (answers a.t.now a.q a.answering.bits) (has p) v
part c v y =
    let a = c.args in
    alone a.kind a.t.now a.q a.c a.answering.bits c.cut-tried.result.bits (tried c) v (rw (lent-all a.t.now) at y)

-- where the list in force is the coordinator's own, P, which is the whole choice, holds a quorum of it
sure : (c : After-cut-tried) (u : Within (used_of c.args.t.now) c.args.c) (v : Verdict) → let a = c.args in let p = c.cut-tried.result.bits in
    Judged (answers (take (length a.t.now - 0) a.t.now) a.q p) (has p) v → v.tally.current ≡ true → v.force.list ≡ c.list-own.result → p ≡ c.chosen_unless-chosen.result.bits
    → (frame : Frame) → frame ≡ frame_of a.t.now → (not (is_empty v.force.list) && list_quorum a.kind frame v.force.list (has p)) ≡ true
unfolding list_of list
sure c u v y k same whole frame ef =
    let t = c.args.t.now in
    let z : Judged (answers t c.args.q c.cut-tried.result.bits) (has c.cut-tried.result.bits) v = rw (lent-all t) at y in
    rw (ef, same ∙ own_is c) (sure-held c.args.kind t c.args.q c.cut-tried.result.bits _ (list_of t c.args.c) c.requires.0.formed ((formed t c.requires.0.formed).heads _ u).only (ap has whole ∙ chosen_is c) (sym z.tally.current ∙ k))

-- one of two is no
no-first : (a b : Bool) → a ≡ false → (a && b) ≡ false
no-first a b e = rw e

no_second : (a b : Bool) → b ≡ false → (a && b) ≡ false
no_second a b e = rw e (and-false a)

pub row_of-row-requires : goal.row_of-row-requires
row_of-row-requires c = (sized c.requires.0.formed, has_within (used_of c.args.t.now) c.args.answering.bits c.args.c c.requires.2 c.requires.3)

pub chosen_unless-chosen-requires : goal.chosen_unless-chosen-requires
chosen_unless-chosen-requires c = λ d. c.requires.4.chosen d ∙ sym (choice-of c.args.kind c.args.c _ _ c.requires.0 c.row_of-row.ensures.0 c.list-own.ensures c.name.ensures)

pub judged-part-requires : goal.judged-part-requires
judged-part-requires c = rw (lent-all c.args.t.now) (sized c.requires.0.formed, newest c.args.t.now c.requires.0.formed, c.requires.1, tried-used (goal.at.judged-part-requires c).After-cut-tried)

pub returns-then-both : goal.returns-then-both
unfolding equal
returns-then-both c =
    let a = c.args in
    let p = (goal.at.returns-then-both c).After-cut-tried in
    let both = sym c.both.ensures ∙ c.if-both.true in
    let whole = eqb-true _ _ (sym c.eq.ensures ∙ and_l _ _ both) in
    let same = (equal-same _ _).0 (sym c.eq-then-part.ensures ∙ and_r c.eq.result _ both) in
    let frame = frame-is c.requires.0 in
    works-on-try a.kind a.t.now a.q a.c a.answering.bits c.cut-tried.result.bits (tried p) _ frame _ (part p _ c.judged-part.ensures) _ refl
    (and_i _ _ c.if-part.true (sure p (own-used p) _ c.judged-part.ensures c.if-part.true same whole _ frame)) _ c.cut-tried.result _ refl (ap (count 64) (chosen-said p)) c.on_try.ensures.on c.on_try.ensures.none

pub returns-then-quorum_held : goal.returns-then-quorum_held
returns-then-quorum_held c =
    let a = c.args in
    let p = (goal.at.returns-then-quorum_held c).After-cut-tried in
    let o = c.on_try-then-quorum_held.ensures in
    works-on-try a.kind a.t.now a.q a.c a.answering.bits c.cut-tried.result.bits (tried p) _ (frame-is c.requires.0) _ (part p _ c.judged-part.ensures) _ refl
    (and_i _ _ c.if-part.true (sym c.quorum_held.ensures ∙ c.if-quorum_held.true)) _ c.cut-tried.result _ refl (ap (count 64) (chosen-said p)) o.on o.none

pub returns-then-eq : goal.returns-then-eq
returns-then-eq c =
    let a = c.args in
    let p = (goal.at.returns-then-eq c).After-cut-tried in
    let o = c.on_all.ensures in
    let f = c.requires.0 in
    works-on-all a.kind a.t.now a.q a.c a.answering.bits c.cut-tried.result.bits (tried p) _ (frame-is f) _ (part p _ c.judged-part.ensures) _ refl
    (elim c.if-part.branch [ then-part+else-both+else-quorum_held w ↦ no_second _ _ (sym w.quorum_held.ensures ∙ w.if-quorum_held.false) | else-part w ↦ no-first _ _ w.if-part.false ]) _ a.answering _ _ refl (long-chain f)
    (subst (λ (x : ℕ). Judged (answers a.t.now a.q a.answering.bits) (has x) c.judged-part.result) (eqb-true _ _ (sym c.eq-2.ensures ∙ c.if-eq.true)) (part p _ c.judged-part.ensures)) o.on o.asked

pub judged-requires : goal.judged-requires
judged-requires c = rw (lent-all c.args.t.now) (sized c.requires.0.formed, newest c.args.t.now c.requires.0.formed, c.requires.1, c.requires.2)

pub returns : goal.returns
returns c =
    let a = c.args in
    let p = (goal.at.returns c).After-cut-tried in
    let o = c.on_all-2.ensures in
    let f = c.requires.0 in
    works-on-all a.kind a.t.now a.q a.c a.answering.bits c.cut-tried.result.bits (tried p) _ (frame-is f) _ (part p _ c.judged-part.ensures) _ refl
    (elim c.if-part.branch [ then-part+else-both+else-quorum_held w ↦ no_second _ _ (sym w.quorum_held.ensures ∙ w.if-quorum_held.false) | else-part w ↦ no-first _ _ w.if-part.false ]) _ a.answering _ _ refl (long-chain f)
    (rw (lent-all a.t.now) at c.judged.ensures) o.on o.asked
