-- Sends in a founded history: as whole sends; rows of one version keep the same.
use mathlib.Core.Path.{sym, ◌∙◌, ap}
use mathlib.Core.List.{List}
use Prim.Native.Nat.{ℕ}
use native.Mathlib.Omega.{arith}
use lib.Dec.{eqb}
use Rattle.fields.specs.Layout.{stale_of, version_of, desired_of, contents_of}
use Rattle.protocol.specs.Calls.{Sending, send, done}
use Rattle.protocol.proofs.RowLaws.{copy_kit, fields_of, changed}
use Rattle.protocol.proofs.QuestionLaws.{SendYes, refusal_is, when-done, send-yes}
use Rattle.protocol.proofs.DoneLaws.{send_table, send-target}
use Rattle.history.specs.Book.{Book}
use Rattle.history.specs.Claims.{WholeSend, SendsAreWhole, KeptByVersion}
use Rattle.history.proofs.State.{State}
use Rattle.history.proofs.Next.{sent-here}
use Rattle.history.proofs.Theorems.{reached}

whole-send : (t : List ℕ) (b : Book) (e : ℕ) (a : Sending) → State a.file t b e → (y : SendYes t a) → WholeSend t (send_table t a y) a
unfolding changed fields_of copy_kit stale_of version_of desired_of contents_of
whole-send t b e a S y =
    let r = send-target t a y in
    record {
      contents = r.bytes ∙ sent-here t b e a S y;
      version = r.fields 2 (omega arith);
      mark = ap (λ (x : ℕ). eqb x 1) (r.fields 1 (omega arith));
      desired = r.fields 3 (omega arith);
    }

pub sends-are-whole : SendsAreWhole
unfolding SendsAreWhole done send_table
sends-are-whole t b x a h =
    let l = reached t b x in
    let y = send-yes t a (sym (refusal_is t (send a)) ∙ h) in
    rw (when-done t (send a) h) (whole-send t (b a.file) l.0 a (l.1.file a.file y.group) y)

pub kept-by-version : KeptByVersion
unfolding KeptByVersion
kept-by-version t b x q w i j u v e =
    let r = ((reached t b x).1.file q w).trail in
    r.held i u ∙ ap r.kept e ∙ sym (r.held j v)
