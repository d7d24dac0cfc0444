use mathlib.Core.Path.{◌≡◌, refl, ◌∙◌}
use mathlib.Core.Bool.{Bool, true, false, not, cond}
use mathlib.Core.List.{List}
use Prim.Native.Nat.{ℕ, suc, ◌+◌, ◌≤◌}
use native.Mathlib.Nat.{mul-le-mul_right}
use native.Mathlib.Omega.{arith}
use lib.ListN.{length}
use Rattle.sets.specs.Sets.{has}
use Rattle.blocks.specs.Blocks.{with_block, with_blocks}
use Rattle.protocol.specs.Rows.{marked_copy}
use Rattle.enroll.specs.declared.FileState.{FileState}
use Rattle.enroll.specs.Files.{by_file}
use Rattle.enroll.proofs.FileLaws.{at_place}
use Rattle.enroll.proofs.mark_others.Invariants.{marked}
use Rattle.enroll.proofs.mark_others.Goals as goal

-- one file more
next : (size : ℕ) (files : List FileState) (i k : ℕ) (row row₀ : List ℕ) (good : Bool) (f : FileState) → f ≡ by_file files (suc k) → good ≡ has f.good.bits i → row ≡ marked size files i k row₀
    → cond good row (with_block 32 size (k + 1) (marked_copy f.version) row) ≡ marked size files i (k + 1) row₀
unfolding with_blocks
next size files i k row row₀ good f h g e = let n : k + 1 ≡ suc k = omega arith in rw (n, ← h, ← g, ← e) (turned good _ _)
  where
    turned : (b : Bool) (x y : List ℕ) → cond b x y ≡ cond (not b) y x
    turned true x y = refl
    turned false x y = refl

pub loop-k-init : goal.loop-k-init
unfolding with_blocks
loop-k-init c = (refl, refl)

pub mark_other-requires : goal.mark_other-requires
mark_other-requires c =
    let l = c.loop-k in
    let more : l.k + 1 ≤ length c.args.files.now = omega (arith, c.loop-k-test.true) in
    (omega arith, omega (arith, l.invariant.0, c.requires.1, mul-le-mul_right {m = l.k + 1} {n = length c.args.files.now} c.args.size more), c.requires.2)

pub loop-k-preserved : goal.loop-k-preserved
loop-k-preserved c =
    let l = c.loop-k in (
      c.mark_other.auto.row ∙ l.invariant.0,
      c.mark_other.ensures ∙ next c.args.size c.args.files.now c.args.i l.k l.row c.args.row.now _ _ (at_place _ l.k) c.has.ensures l.invariant.1,
    )
