use mathlib.Core.Path.{sym, ◌∙◌, ap}
use Prim.Native.Nat.{ℕ}
use native.Mathlib.Omega.{arith}
use Rattle.fields.specs.Layout.{get, version, file_length_of}
use Rattle.fields.proofs.FieldLaws.{copy_is}
use Rattle.table.proofs.WellFormedLaws.{newest, sized}
use Rattle.protocol.specs.Calls.{Sending, send}
use Rattle.protocol.proofs.QuestionLaws.{SendYes, send-yes}
use Rattle.asking.proofs.AskingLaws.{some-number}
use Rattle.std.proofs.lemmas.Result.{err_from_is_err_and}
use Rattle.questions.proofs.QuestionLaws.{refused-is}
use Rattle.sends.proofs.SendLaws.{sender-right, send-done}
use Rattle.sends.proofs.send.Goals.{In_ok-send_asked}
use Rattle.sends.proofs.send.Goals as goal

-- the arguments of the call
abbrev sending : (from to r file : ℕ) → Sending
sending from to r file = record { f = from; t = to; r = r; file = file }

yes : (c : In_ok-send_asked) → SendYes c.args.t.now (sending c.args.from c.args.to c.args.r c.args.file)
yes c = send-yes _ _ (sym c.in_ok-send_asked.ensures)

pub returns-in_err-send_asked : goal.returns-in_err-send_asked
returns-in_err-send_asked c =
    let r = c.in_err-send_asked.field-0.0 in
    let e = err_from_is_err_and c.from_residual.result c.from_residual.ensures.1 in
    let no = refused-is c.args.t.now (send (sending c.args.from c.args.to c.args.r c.args.file)) _ (sym c.in_err-send_asked.ensures) (some-number r) in
    (rw (e.1, e.2) no.result, no.table)

pub copy_of-requires : goal.copy_of-requires
copy_of-requires c = let y = yes c in (sized y.formed, newest _ y.formed, y.from-used, y.group)

pub version-version-requires : goal.version-version-requires
version-version-requires c = omega (arith, c.copy_of.ensures.1, copy_is (file_length_of c.args.t.now))

pub refresh-requires : goal.refresh-requires
refresh-requires c = let y = yes (goal.at.refresh-requires c).In_ok-send_asked in (sized y.formed, newest _ y.formed, y.group, y.from-used, y.to-used, sender-right _ _ y)

pub returns : goal.returns
returns c =
    let done = send-done c.args.t.now (sending c.args.from c.args.to c.args.r c.args.file) _ (sym c.in_ok-send_asked.ensures) (c.version-version.ensures ∙ ap (get version) c.copy_of.ensures.0) in
    (done.0, c.refresh.ensures ∙ done.1)
