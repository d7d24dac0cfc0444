use mathlib.Core.Path.{◌≡◌, sym, ◌∙◌}
use Prim.Native.Nat.{ℕ, ◌+◌, ◌≤◌, ◌<◌}
use native.Mathlib.Omega.{arith}
use borrow.Author.Rules.{rules}
use Rattle.fields.specs.Layout.{stride_in}
use Rattle.fields.proofs.FieldLaws.{stride-early, stride-third, stride-late}
use Rattle.table.proofs.size_in.Goals as goal

third : (f files file : ℕ) → 3 ≤ f → f < 4 → 32 + file + 576 ≡ stride_in f files file
third f files file h g = let e : f ≡ 3 = omega arith in rw e (let m : 32 + file + 576 ≡ 608 + file = omega arith in m ∙ sym (stride-third files file))

pub returns-then-form-lt-WITH_RECORDS : goal.returns-then-form-lt-WITH_RECORDS
returns-then-form-lt-WITH_RECORDS c = let a = c.args in sym (stride-early a.form a.files a.file c.if-form-lt-WITH_RECORDS.true)

pub returns-then-form-lt-WITH_FILES : goal.returns-then-form-lt-WITH_FILES
returns-then-form-lt-WITH_FILES c = let a = c.args in third a.form a.files a.file c.if-form-lt-WITH_RECORDS.false c.if-form-lt-WITH_FILES.true

pub returns : goal.returns
returns c = let a = c.args in c.row_size.ensures ∙ sym (stride-late a.form a.files a.file c.if-form-lt-WITH_FILES.false)
