use Rattle.table.specs.WellFormed.{copy_right}
use Rattle.fields.proofs.FieldLaws.{stride-is, copy_is}
use Rattle.blocks.specs.Blocks.{block}
use Rattle.fields.specs.Layout.{form_value, copy_length, copy_in}
use Rattle.sets.proofs.TestLaws.{every_more, every-not}
use Rattle.sets.specs.Upto.{every}
use native.Mathlib.Omega.{arith}
use native.Mathlib.Nat.{mul-le-mul_right}
use Prim.Native.Nat.{ℕ, ◌+◌, ◌*◌, ◌≤◌}
use mathlib.Core.Path.{◌≡◌, refl, sym, ◌∙◌, ap}
use Rattle.wellformed.proofs.copies_right.Goals.{After-copy_right}
use Rattle.wellformed.proofs.copies_right.Goals as goal

-- what was found of the copy at hand
found : (c : After-copy_right) → let a = c.args in
    copy_right form_value a.file (copy_in a.file (c.loop-q.q + 1) a.row.now) ≡ c.copy_right.result
unfolding copy_in
found c =
    let a = c.args in
    sym (c.copy_right.ensures ∙ ap (copy_right form_value a.file) (c.copy_in.ensures.0 ∙ ap (λ (w : ℕ). block 32 w (c.loop-q.q + 1) a.row.now) c.copy_size-size.ensures))

pub loop-q-init : goal.loop-q-init
unfolding every
loop-q-init c = refl

pub copy_in-requires : goal.copy_in-requires
copy_in-requires c =
    let w = copy_length c.args.file in
    let m : (c.loop-q.q + 1) * w ≤ c.args.files * w = mul-le-mul_right w (omega (arith, c.loop-q-test.true)) in
    (omega arith, rw c.copy_size-size.ensures (omega (arith, m, c.requires.1, stride-is c.args.files c.args.file)))

pub copy_right-requires : goal.copy_right-requires
copy_right-requires c = c.copy_in.ensures.1 ∙ c.copy_size-size.ensures ∙ copy_is c.args.file

pub returns-then-not-copy_right : goal.returns-then-not-copy_right
returns-then-not-copy_right c = every-not _ _ (c.loop-q.q + 1) (omega (arith, c.loop-q-test.true)) (found (goal.at.returns-then-not-copy_right c).After-copy_right ∙ c.if-not-copy_right.true)

pub loop-q-preserved : goal.loop-q-preserved
loop-q-preserved c =
    let l = c.loop-q in
    every_more _ l.q l.invariant (found (goal.at.loop-q-preserved c).After-copy_right ∙ c.if-not-copy_right.false)
