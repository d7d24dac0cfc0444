use Rattle.wellformed.proofs.RowLaws.{former-is, third-long, head-no, head-yes}
use Rattle.table.proofs.WellFormedLaws.{header, few-rows, long}
use Rattle.table.specs.WellFormed.{head_right, copy_right}
use Rattle.fields.specs.Layout.{form_of, used_of, file_length_of, row_bytes}
use Rattle.sets.proofs.TestLaws.{every_more, every-not}
use Rattle.sets.specs.Upto.{Within, every}
use lib.ListN.{length}
use native.Mathlib.Omega.{arith}
use Prim.Native.Nat.{ℕ, ◌+◌, ◌<◌}
use mathlib.Core.Path.{◌≡◌, refl, sym, ◌∙◌, ap}
use Rattle.wellformed.proofs.former_right.Goals.{After-former_copy_right, After-former_head_right, In-loop-k}
use Rattle.wellformed.proofs.former_right.Goals as goal

-- the row at hand is used
within : (c : In-loop-k) → Within (used_of c.args.t.now) (c.loop-k.k + 1)
within c = omega (arith, c.loop-k-test.true, c.used-used.ensures)

old : (c : In-loop-k) → form_of c.args.t.now < 4
old c = c.requires.1

given : (c : In-loop-k) → Within 3 c.form-form.result
given c =
    omega (arith, c.form-form.ensures, old c, (header c.requires.0.header).form)

-- what was found of it
head-found : (c : After-former_head_right) → let t = c.args.t.now in
    head_right (form_of t) (used_of t) (c.loop-k.k + 1) (row_bytes t (c.loop-k.k + 1)) ≡ c.former_head_right.result
head-found c =
    sym (c.former_head_right.ensures ∙ rw (c.form-form.ensures, c.used-used.ensures, c.row_of-row.ensures.0))

copy-found : (c : After-former_copy_right) → let t = c.args.t.now in
    copy_right (form_of t) (file_length_of t) (row_bytes t (c.loop-k.k + 1)) ≡ c.former_copy_right.result
copy-found c =
    sym (c.former_copy_right.ensures ∙ rw (c.form-form.ensures, c.file_length-file.ensures, c.row_of-row.ensures.0))

pub form-form-requires : goal.form-form-requires
form-form-requires c = long c.requires.0

pub used-used-requires : goal.used-used-requires
used-used-requires c = long c.requires.0

pub file_length-file-requires : goal.file_length-file-requires
file_length-file-requires c = long c.requires.0

pub loop-k-init : goal.loop-k-init
unfolding every
loop-k-init c = refl

pub former_head_right-requires : goal.former_head_right-requires
former_head_right-requires c =
    (omega (arith, given (goal.at.former_head_right-requires c).In-loop-k), omega (arith, c.used-used.ensures, few-rows c.requires.0), omega (arith, c.used-used.ensures, within (goal.at.former_head_right-requires c).In-loop-k), c.row_of-row.ensures.1)

pub returns-then-not-former_head_right : goal.returns-then-not-former_head_right
returns-then-not-former_head_right c =
    every-not _ _ (c.loop-k.k + 1) (within (goal.at.returns-then-not-former_head_right c).In-loop-k) (head-no _ _ (former-is _ _ (old (goal.at.returns-then-not-former_head_right c).In-loop-k)) (head-found (goal.at.returns-then-not-former_head_right c).After-former_head_right ∙ c.if-not-former_head_right.true))

pub former_copy_right-requires : goal.former_copy_right-requires
former_copy_right-requires c = (
  given (goal.at.former_copy_right-requires c).In-loop-k,
  c.row_of-row.ensures.1,
  λ e. ap length c.row_of-row.ensures.0 ∙ third-long c.requires.0 (sym c.form-form.ensures ∙ e) _ (within (goal.at.former_copy_right-requires c).In-loop-k) ∙ ap (λ (n : ℕ). 608 + n) (sym c.file_length-file.ensures),
)

pub returns-then-not-former_copy_right : goal.returns-then-not-former_copy_right
returns-then-not-former_copy_right c =
    every-not _ _ (c.loop-k.k + 1) (within (goal.at.returns-then-not-former_copy_right c).In-loop-k)
    (head-yes _ _ (former-is _ _ (old (goal.at.returns-then-not-former_copy_right c).In-loop-k)) (head-found (goal.at.returns-then-not-former_copy_right c).After-former_head_right ∙ c.if-not-former_head_right.false) ∙ copy-found (goal.at.returns-then-not-former_copy_right c).After-former_copy_right ∙ c.if-not-former_copy_right.true)

pub loop-k-preserved : goal.loop-k-preserved
loop-k-preserved c =
    let l = c.loop-k in
    every_more _ l.k l.invariant
    (head-yes _ _ (former-is _ _ (old (goal.at.loop-k-preserved c).In-loop-k)) (head-found (goal.at.loop-k-preserved c).After-former_head_right ∙ c.if-not-former_head_right.false) ∙ copy-found (goal.at.loop-k-preserved c).After-former_copy_right ∙ c.if-not-former_copy_right.false)
