use Rattle.std.proofs.Common.{◌≡◌, ◌∙◌, ◌+◌, length, drop, ap, refl, sym, arith}
use native.Mathlib.Nat.{zero-add}
use Rattle.std.proofs.lemmas.Result.{err_from_is_err_and}
use Rattle.asking.proofs.AskingLaws.{some-number}
use Rattle.orders.specs.Turns.{Run}
use Rattle.orders.proofs.OrderLaws.{run}
use Rattle.ordering.specs.Rounds.{round_of}
use Rattle.rounds.proofs.RoundLaws.{told, after-turn, after-all, after-none, after-stays, refused-first}
use Rattle.rounds.proofs.round.Goals as goal

pub returns-in_err-s : goal.returns-in_err-s
returns-in_err-s c =
    let a = c.args in
    let p = err_from_is_err_and c.from_residual.result c.from_residual.ensures.1 in
    let e = refused-first a.t.now a.sheet.now a.r a.list.now _ c.in_err-s.ensures.asked (some-number _) in
    (rw (p.1, p.2) (ap (λ (x : Run). x.result) e), ap (λ (x : Run). x.table) e, refl, ap (λ (x : Run). x.sheet) e)

pub loop-o-init : goal.loop-o-init
loop-o-init c =
    let a = c.args in
    let y = c.in_ok-s.ensures.ready in record {
      so_far = rw y.0 (after-none a.t.now a.sheet.now a.r a.list.now c.in_ok-s.ensures.asked);
      ready = y.1;
    }

pub next-requires : goal.next-requires
next-requires c = λ h. c.loop-o.invariant.ready

pub returns-in-Err : goal.returns-in-Err
returns-in-Err c =
    let a = c.args in
    let l = c.loop-o in
    let k = after-turn a.r _ _ a.list.now l.o-index _ (omega arith) c.in-Err.ensures.made in
    let e = sym (after-stays a.r _ _ _ (drop (l.o-index + 1) a.list.now) (omega (arith, some-number c.in-Err.refusal))) ∙ k ∙ l.invariant.so_far in
    (ap (λ (x : Run). x.result) e, ap (λ (x : Run). x.table) e, refl, ap (λ (x : Run). x.sheet) e)

pub loop-o-preserved : goal.loop-o-preserved
loop-o-preserved c =
    let l = c.loop-o in
    let y = c.in-Ok.ensures.ready c.loop-o.invariant.ready.ready.few in record {
      so_far = after-turn c.args.r _ _ c.args.list.now l.o-index _ (omega arith) c.in-Ok.ensures.made ∙ l.invariant.so_far;
      ready = y.1;
    }

pub returns : goal.returns
returns c =
    let l = c.loop-o in
    let a = c.args in
    let end : l.o-index ≡ length a.list.now = omega arith in
    let e : run l.s.turn.done l.t l.sheet ≡ told (round_of a.t.now a.sheet.now a.r a.list.now) = after-all a.r _ a.list.now l.o-index end ∙ l.invariant.so_far in
    (zero-add l.s.turn.done ∙ ap (λ (x : Run). x.result) e, ap (λ (x : Run). x.table) e, refl, ap (λ (x : Run). x.sheet) e)
