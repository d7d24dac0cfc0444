-- What is claimed of moves, proved.
use mathlib.Core.Path.{sym, ◌∙◌, ap, subst}
use Rattle.carrying.specs.Claims.{RightIn, CarriedRight}
use Rattle.carrying.proofs.Formed.{carried-right}
use Rattle.protocol.specs.Calls.{Outcome, carry, done}
use Rattle.protocol.specs.Claims.{MovesOver}
use Rattle.protocol.proofs.QuestionLaws.{refusal_is, when-done, carry-yes}

pub moves-over : MovesOver
unfolding MovesOver CarriedRight done
moves-over t a h =
    let y = carry-yes t a (sym (refusal_is t (carry a)) ∙ h) in
    let o = when-done t (carry a) h in
    let b = ap (λ (x : Outcome). x.buffer) o in
    record {
      table = ap (λ (x : Outcome). x.table) o;
      value = ap (λ (x : Outcome). x.value) o;
      buffer = b;
      right = subst (RightIn a.form t) (sym b) (carried-right t a.form y.own y.plain y.over);
    }
