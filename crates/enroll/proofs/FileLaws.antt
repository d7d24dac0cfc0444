-- The files of a table, and the places for them in an array.
use mathlib.Core.Path.{◌≡◌, refl, ◌∙◌, ap, ap₂}
use mathlib.Core.Bool.{Bool, not, cond}
use mathlib.Core.List.{List}
use Prim.Native.Nat.{ℕ, zero, suc, ◌-◌}
use native.Mathlib.Omega.{arith}
use lib.ListN.{get_or, take}
use lib.Seq.{get_or-take}
use Rattle.sets.specs.Upto.{Within}
use Rattle.sets.specs.Sets.{has}
use Rattle.blocks.specs.Blocks.{with_block, with_blocks}
use Rattle.protocol.specs.Rows.{marked_copy}
use Rattle.enroll.specs.declared.FileState.{FileState}
use Rattle.enroll.specs.Files.{by_file}

-- what stands at place k is for file k + 1
pub at_place : (files : List FileState) (k : ℕ) → get_or files k (record { good = record { bits = 0 }; version = 0 }) ≡ by_file files (suc k)
unfolding by_file
at_place files k = let z : suc k - 1 ≡ k = omega arith in rw z refl

-- blocks changed alike
pub blocks-same : (a w n : ℕ) (s r : ℕ → Bool) (f g : ℕ → List ℕ → List ℕ) → ((q : ℕ) → Within n q → s q ≡ r q) → ((q : ℕ) → Within n q → f q ≡ g q)
    → (xs : List ℕ) → with_blocks a w s f n xs ≡ with_blocks a w r g n xs
unfolding with_blocks
blocks-same a w zero s r f g e d xs = refl
blocks-same a w (suc n) s r f g e d xs =
    let u = with_blocks a w s f n xs in
    ap₂ (λ (b : Bool) (h : List ℕ → List ℕ). cond b (with_block a w (suc n) h u) u) (e (suc n) (omega arith)) (d (suc n) (omega arith))
    ∙ ap (λ (x : List ℕ). cond (r (suc n)) (with_block a w (suc n) (g (suc n)) x) x) (blocks-same a w n s r f g (λ q v. e q (omega arith)) (λ q v. d q (omega arith)) xs)

-- of the first n places none but those for the files up to n are read
kept : (files : List FileState) (n q : ℕ) → Within n q → by_file (take n files) q ≡ by_file files q
unfolding by_file
kept files n q v = get_or-take n files (q - 1) _ (omega arith)

pub first-kept : (w i n : ℕ) (files : List FileState) (row : List ℕ)
    → with_blocks 32 w (λ q. not (has (by_file (take n files) q).good.bits i)) (λ q. marked_copy (by_file (take n files) q).version) n row
    ≡ with_blocks 32 w (λ q. not (has (by_file files q).good.bits i)) (λ q. marked_copy (by_file files q).version) n row
first-kept w i n files row =
    blocks-same 32 w n _ _ _ _ (λ q v. ap (λ (f : FileState). not (has f.good.bits i)) (kept files n q v)) (λ q v. ap (λ (f : FileState). marked_copy f.version) (kept files n q v)) row
