use Rattle.values.proofs.CopyLaws.{copy-asked, cut-kept}
use Rattle.table.specs.WellFormed.{kept_right, copy_right}
use Rattle.fields.specs.Layout.{spare_in}
use Rattle.octets.specs.Bytes.{all_zero}
use borrow.Author.Tests.{lt-leb}
use lib.ListN.{length}
use native.Mathlib.Omega.{arith}
use mathlib.Core.List.{List}
use Prim.Native.Nat.{ℕ, ◌+◌, ◌<◌}
use mathlib.Core.Bool.{Bool, true, false, ◌&&◌, and-true}
use mathlib.Core.Path.{◌≡◌, sym, ◌∙◌}
use Rattle.values.proofs.former_copy_right.Goals.{After-copy_numbers, Else-form-lt-WITH_RECORDS}
use Rattle.values.proofs.former_copy_right.Goals as goal

-- all but the window was tested together
asked : (c : After-copy_numbers) (b : Bool) → c.copy_numbers.result ≡ b → let a = c.args in
    copy_right a.form a.file a.row.now ≡ (b && kept_right a.form a.file a.row.now)
unfolding spare_in all_zero
asked c b e =
    let a = c.args in
    copy-asked a.form a.file a.row.now
    ∙ rw (lt-leb 4 a.form (omega (arith, c.requires.0)), sym e ∙ c.copy_numbers.ensures, c.desired.ensures, c.mark_in.ensures, c.version-version.ensures, and-true _)

-- there are none
none : (f file : ℕ) (row : List ℕ) → f < 3 → kept_right f file row ≡ true
unfolding kept_right
none f file row h = rw (lt-leb 3 f h)

-- there are records
row-long : (c : Else-form-lt-WITH_RECORDS) → let a = c.args in length a.row.now ≡ 32 + a.file + 576
row-long c =
    omega (arith, c.requires.2 (omega (arith, c.requires.0, c.if-form-lt-WITH_RECORDS.false)))

pub returns-then-not-copy_numbers : goal.returns-then-not-copy_numbers
returns-then-not-copy_numbers c = sym (asked (goal.at.returns-then-not-copy_numbers c).After-copy_numbers false (c.if-not-copy_numbers.true))

pub returns-then-form-lt-WITH_RECORDS : goal.returns-then-form-lt-WITH_RECORDS
returns-then-form-lt-WITH_RECORDS c = sym (asked (goal.at.returns-then-form-lt-WITH_RECORDS c).After-copy_numbers true (c.if-not-copy_numbers.false) ∙ none _ _ _ c.if-form-lt-WITH_RECORDS.true)

pub returns : goal.returns
returns c =
    c.window_right.ensures ∙ cut-kept c.args.row.now (32 + c.args.file) (row-long (goal.at.returns c).Else-form-lt-WITH_RECORDS) c.args.form c.args.file _ _ c.if-form-lt-WITH_RECORDS.false c.version-version.ensures c.oldest_in-oldest.ensures
    ∙ sym (asked (goal.at.returns c).After-copy_numbers true (c.if-not-copy_numbers.false))
