-- Records written by the code: a record filled, and a record lent and back in its place.
use mathlib.Core.Path.{◌≡◌, refl, sym, ◌∙◌, ap, ap₂}
use mathlib.Core.List.{List, ◌++◌}
use Prim.Native.Nat.{ℕ, zero, suc, ◌+◌, ◌-◌, ◌*◌, ◌≤◌}
use native.Mathlib.Omega.{arith}
use lib.ListN.{length, take, drop}
use lib.Seq.{drop-drop}
use Rattle.octets.specs.Bytes.{bytes_of, put, zeros}
use Rattle.octets.proofs.ByteLaws.{split-zeros, length-zeros}
use Rattle.octets.proofs.CodeLaws.{part-back, part-is}
use lib.Seq.{drop_at}
use Rattle.blocks.specs.Blocks.{block, with_block}
use Rattle.window.specs.Windows.{record_with}

-- zeros, then length, offset and patch
first : ℕ → ℕ → List ℕ
first n offset = bytes_of 1 0 ++ (bytes_of 1 n ++ bytes_of 2 offset)

head-made : (n offset : ℕ) → put 2 (bytes_of 2 offset) (put 1 (bytes_of 1 n) (bytes_of 36 0)) ≡ first n offset ++ zeros 32
unfolding put bytes_of zeros first
head-made n offset = refl

pub record-made : (offset : ℕ) (p : List ℕ) → length p ≤ 32
    → put 4 p (put 2 (bytes_of 2 offset) (put 1 (bytes_of 1 (length p)) (bytes_of 36 0))) ≡ record_with (record { offset = offset; bytes = p })
unfolding record_with put bytes_of first
record-made offset p h =
    let n : length p + (32 - length p) ≡ 32 = omega arith in
    let rest : drop (length p) (zeros 32) ≡ zeros (32 - length p) =
    ap (λ (k : ℕ). drop (length p) (zeros k)) (sym n) ∙ ap (drop (length p)) (split-zeros (length p) (32 - length p)) ∙ drop_at (zeros (length p)) (zeros (32 - length p)) (length p) (length-zeros (length p)) in
    ap (λ (l : List ℕ). put 4 p l) (head-made (length p) offset) ∙ ap (λ (l : List ℕ). first (length p) offset ++ (p ++ l)) (sym (drop-drop (length p) 4 (first (length p) offset ++ zeros 32)) ∙ rest)

-- no record changed
pub with_none : (l : ℕ) (f : List ℕ → List ℕ) (xs : List ℕ) → l ≡ 0 → xs ≡ with_block 0 36 l f xs
unfolding with_block
with_none l f xs e = rw e

-- a record lent and changed
pub lent-record : (xs ys : List ℕ) (l : ℕ) (f : List ℕ → List ℕ) → 1 ≤ l → ys ≡ f (take (((l - 1) * 36 + 36) - (l - 1) * 36) (drop ((l - 1) * 36) xs)) → length ys ≡ 36
    → take ((l - 1) * 36) xs ++ (ys ++ drop (((l - 1) * 36 + 36) - (l - 1) * 36) (drop ((l - 1) * 36) xs)) ≡ with_block 0 36 l f xs
unfolding with_block block
lent-record xs ys zero f h e n = absurd (omega arith)
lent-record xs ys (suc k) f h e n =
    let z : (suc k - 1) * 36 ≡ 0 + k * 36 = omega arith in
    part-back ((suc k - 1) * 36) 36 xs ys ys refl n ∙ ap₂ (λ (a : ℕ) (p : List ℕ). put a p xs) z (e ∙ ap f (part-is xs ((suc k - 1) * 36) 36 (0 + k * 36) 36 z refl))

-- a record as the code cuts it
pub cut_record : (records : List ℕ) (x : ℕ) → 1 ≤ x → take (((x - 1) * 36 + 36) - (x - 1) * 36) (drop ((x - 1) * 36) records) ≡ block 0 36 x records
unfolding block
cut_record records zero h = absurd (omega arith)
cut_record records (suc k) h = let z : (suc k - 1) * 36 ≡ 0 + k * 36 = omega arith in part-is records ((suc k - 1) * 36) 36 (0 + k * 36) 36 z refl
