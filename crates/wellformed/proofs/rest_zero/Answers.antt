use Rattle.fields.specs.Layout.{rest_in}
use Rattle.octets.proofs.CodeLaws.{zero_number, zero-numbers}
use Rattle.octets.specs.Bytes.{part, all_zero}
use borrow.Author.Tests.{le-leb, lt-leb}
use mathlib.Core.Path.{◌≡◌}
use Rattle.wellformed.proofs.rest_zero.Goals.{After-both-rest}
use Rattle.wellformed.proofs.rest_zero.Goals as goal

tested : (c : After-both-rest) → c.both-rest.result ≡ all_zero (part 7 9 c.args.t.now)
tested c = rw (c.both-rest.ensures, c.u64_at.ensures, c.u8_at.ensures) (zero-numbers 7 1 8 c.args.t.now)

pub returns-then-form-lt-WITH_FILES : goal.returns-then-form-lt-WITH_FILES
unfolding rest_in
returns-then-form-lt-WITH_FILES c =
    let t = c.args.t.now in
    rw (lt-leb 4 c.args.form c.if-form-lt-WITH_FILES.true, c.both.ensures, c.u8_at-then-form-lt-WITH_FILES.ensures, tested (goal.at.returns-then-form-lt-WITH_FILES c).After-both-rest, ← zero_number (part 7 9 t)) (zero-numbers 6 1 9 t)

pub returns : goal.returns
unfolding rest_in
returns c = rw (le-leb 4 c.args.form c.if-form-lt-WITH_FILES.false) (tested (goal.at.returns c).After-both-rest)
