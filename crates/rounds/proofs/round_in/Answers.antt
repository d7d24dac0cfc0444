use mathlib.Core.Path.{refl, ◌∙◌, ap}
use Prim.Native.Nat.{ℕ, ◌/◌}
use native.Mathlib.Nat.{zero-add}
use native.Mathlib.Omega.{arith}
use borrow.Author.Rules.{rules}
use lib.ListN.{length}
use Rattle.std.proofs.lemmas.Result.{err_from_is_err_and}
use Rattle.asking.specs.Asking.{result_number}
use Rattle.asking.proofs.AskingLaws.{some-number}
use Rattle.rounds.proofs.ByteRounds.{broken-stays, broken-no, broken-yes, all_left, one_left, none_left, stopped_left, refused_left, told-in}
use Rattle.rounds.proofs.round_in.Goals as goal

pub returns-in_err-asked : goal.returns-in_err-asked
returns-in_err-asked c =
    let a = c.args in
    let p = err_from_is_err_and c.from_residual.result c.from_residual.ensures.1 in
    let e = c.in_err-asked.ensures.asked in
    let s = broken-stays a.t.now a.sheet.now a.r a.list.now c.if-list-ne0.true _ e in
    (rw (p.1, p.2) (broken-no a.t.now a.sheet.now a.r a.list.now c.if-list-ne0.true _ e (λ z. omega (arith, z, some-number c.in_err-asked.field-0.0))), s.0, refl, s.1)

pub returns-then-list-ne0 : goal.returns-then-list-ne0
returns-then-list-ne0 c =
    let a = c.args in
    let e = c.in_ok-asked.ensures.asked in
    let s = broken-stays a.t.now a.sheet.now a.r a.list.now c.if-list-ne0.true _ e in
    (rw c.from.ensures (broken-yes a.t.now a.sheet.now a.r a.list.now c.if-list-ne0.true _ e refl), s.0, refl, s.1)

pub returns-in_err-left : goal.returns-in_err-left
returns-in_err-left c =
    let a = c.args in
    let p = err_from_is_err_and c.from_residual-in_err-left.result c.from_residual-in_err-left.ensures.1 in
    let d = told-in a.t.now a.sheet.now a.r a.list.now _ _ _ (omega (arith, c.if-list-ne0.false)) (refused_left a.t.now a.sheet.now a.r a.list.now (length a.list.now / 16) _ c.in_err-left.ensures.asked (some-number _)) in
    (rw (p.1, p.2) d.0, d.1, refl, d.2)

pub loop-k-init : goal.loop-k-init
loop-k-init c =
    let a = c.args in record {
      table = refl;
      sheet = refl;
      ready = c.in_ok-left.ensures.ready;
      so_far = all_left a.t.now a.sheet.now a.r a.list.now (length a.list.now / 16) 0 (ap (λ (m : ℕ). result_number m 0) c.in_ok-left.ensures.asked);
    }

pub next_in-requires : goal.next_in-requires
next_in-requires c = (λ h. c.loop-k.invariant.ready, search rules)

pub returns-in-Err : goal.returns-in-Err
returns-in-Err c =
    let l = c.loop-k in
    let a = c.args in
    let n = length a.list.now / 16 in
    let y = one_left a.t.now a.sheet.now a.r a.list.now n l.k l.turn.done _ l.t _ l.sheet _ (omega arith) l.invariant.so_far c.in-Err.ensures.made in
    let d = told-in a.t.now a.sheet.now a.r a.list.now _ _ _ (omega (arith, c.if-list-ne0.false)) (stopped_left a.t.now a.sheet.now a.r a.list.now n _ _ _ _ (omega (arith, some-number c.in-Err.refusal)) y) in
    (d.0, d.1, refl, d.2)

pub loop-k-preserved : goal.loop-k-preserved
loop-k-preserved c =
    let l = c.loop-k in
    let a = c.args in
    let y = c.in-Ok.ensures.ready c.loop-k.invariant.ready.ready.few in record {
      table = c.next_in.auto.t ∙ l.invariant.table;
      sheet = c.next_in.auto.sheet ∙ l.invariant.sheet;
      ready = y.1;
      so_far = one_left a.t.now a.sheet.now a.r a.list.now (length a.list.now / 16) l.k l.turn.done _ l.t _ l.sheet _ (omega arith) l.invariant.so_far c.in-Ok.ensures.made;
    }

pub returns : goal.returns
returns c =
    let l = c.loop-k in
    let a = c.args in
    let d = told-in a.t.now a.sheet.now a.r a.list.now _ _ _ (omega (arith, c.if-list-ne0.false)) (none_left a.t.now a.sheet.now a.r a.list.now (length a.list.now / 16) l.k l.turn.done l.t l.sheet (omega arith) l.invariant.so_far) in
    (zero-add l.turn.done ∙ d.0, d.1, refl, d.2)
