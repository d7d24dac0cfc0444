use Rattle.wellformed.proofs.RowLaws.{copies, copies-by, later-long}
use Rattle.table.proofs.WellFormedLaws.{header, long}
use Rattle.fields.specs.Layout.{stride, used_of, row_length}
use Rattle.fields.proofs.FieldLaws.{stride-late}
use lib.ListN.{length}
use Rattle.sets.proofs.TestLaws.{every_more, every-not}
use Rattle.sets.specs.Upto.{Within, every}
use native.Mathlib.Omega.{arith}
use Prim.Native.Nat.{ℕ, ◌+◌}
use mathlib.Core.Path.{◌≡◌, refl, sym, ◌∙◌, ap, ap₂}
use Rattle.wellformed.proofs.every_copy.Goals.{After-copies_right, After-row_size-size, In-loop-k}
use Rattle.wellformed.proofs.every_copy.Goals as goal

-- the row at hand is used
within : (c : In-loop-k) → Within (used_of c.args.t.now) (c.loop-k.k + 1)
within c = omega (arith, c.loop-k-test.true, c.used-used.ensures)

-- rows are as long as was found
size_is : (c : After-row_size-size) → c.row_size-size.result ≡ row_length c.args.t.now
unfolding row_length
size_is c = c.row_size-size.ensures ∙ ap₂ stride c.files-files.ensures c.file_length-file.ensures ∙ sym (stride-late _ _ _ c.requires.1)

-- what was found of it
found : (c : After-copies_right) → copies c.args.t.now (c.loop-k.k + 1) ≡ c.copies_right.result
found c =
    sym (c.copies_right.ensures ∙ copies-by _ _ _ _ _ c.files-files.ensures c.file_length-file.ensures c.row_at-row.ensures.0)

pub used-used-requires : goal.used-used-requires
used-used-requires c = long c.requires.0

pub files-files-requires : goal.files-files-requires
files-files-requires c = long c.requires.0

pub file_length-file-requires : goal.file_length-file-requires
file_length-file-requires c = long c.requires.0

pub row_size-size-requires : goal.row_size-size-requires
row_size-size-requires c = let h = header c.requires.0.header in (omega (arith, c.files-files.ensures, h.files), omega (arith, c.file_length-file.ensures, h.file))

pub loop-k-init : goal.loop-k-init
unfolding every
loop-k-init c = refl

pub row_at-row-requires : goal.row_at-row-requires
row_at-row-requires c = (c.requires.0, size_is (goal.at.row_at-row-requires c).After-row_size-size, within c)

pub copies_right-requires : goal.copies_right-requires
copies_right-requires c = (
  omega (arith, c.file_length-file.ensures, (header c.requires.0.header).file),
  ap length c.row_at-row.ensures.0 ∙ later-long c.requires.0 c.requires.1 _ (within (goal.at.copies_right-requires c).In-loop-k) ∙ ap₂ stride (sym c.files-files.ensures) (sym c.file_length-file.ensures),
)

pub returns-then-not-copies_right : goal.returns-then-not-copies_right
unfolding copies
returns-then-not-copies_right c = every-not _ _ (c.loop-k.k + 1) (within (goal.at.returns-then-not-copies_right c).In-loop-k) (found (goal.at.returns-then-not-copies_right c).After-copies_right ∙ c.if-not-copies_right.true)

pub loop-k-preserved : goal.loop-k-preserved
loop-k-preserved c =
    let l = c.loop-k in
    every_more _ l.k l.invariant (found (goal.at.loop-k-preserved c).After-copies_right ∙ c.if-not-copies_right.false)

pub returns : goal.returns
unfolding copies
returns c =
    let t = c.args.t.now in
    let e : c.loop-k.k ≡ used_of t = omega (arith, c.loop-k-test.false, c.loop-k.auto.k-end, c.used-used.ensures) in
    sym c.loop-k.invariant ∙ ap (λ (n : ℕ). every n (copies t)) e
