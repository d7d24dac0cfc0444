-- An order, as a struct and in bytes, as the write that it stands for.
use mathlib.Core.Path.{◌≡◌, refl, sym, ◌∙◌, ap}
use mathlib.Core.Bool.{Bool, true, false, cond}
use mathlib.Core.List.{List, [], ◌∷◌}
use Prim.Native.Nat.{ℕ, ◌≤◌, ◌+◌, ◌-◌}
use native.Mathlib.Omega.{arith}
use lib.ListN.{take, drop}
use Rattle.octets.specs.Bytes.{number, part}
use Rattle.octets.proofs.ByteLaws.{part-part}
use Rattle.table.specs.WellFormed.{between}
use Rattle.ordering.specs.declared.Order.{Order}
use Rattle.ordering.specs.Rounds.{patch_of, writing, order_in}

-- ---- an order's patch
pub patch-is : (count n : ℕ) (bytes : List ℕ) → n ≡ cond (between 1 count 8) count 0 → take n bytes ≡ cond (between 1 count 8) (take count bytes) []
patch-is count n bytes e = ap (λ (k : ℕ). take k bytes) e ∙ go (between 1 count 8)
  where
    go : (b : Bool) → take (cond b count 0) bytes ≡ cond b (take count bytes) []
    go true = refl
    go false = refl

-- an order's fields, with its patch, are the write that it stands for
pub order-writes : (r : ℕ) (s : List ℕ) (o : Order) (patch : List ℕ) → patch ≡ patch_of o
    → record { c = o.coordinator; r = r; offset = o.offset; patch = patch; called = 0 ∷ []; file = o.file; sheet = s; club = o.club } ≡ writing r s o
unfolding writing
order-writes r s o patch e = λ i. record { c = o.coordinator; r = r; offset = o.offset; patch = e i; called = 0 ∷ []; file = o.file; sheet = s; club = o.club }

-- ---- an order in bytes
module _ (xs : List ℕ) (c count offset file club n : ℕ) (e₀ : c ≡ number (part 0 1 xs)) (e₁ : count ≡ number (part 1 1 xs)) (e₂ : offset ≡ number (part 2 2 xs)) (e₁₂ : file ≡ number (part 12 1 xs)) (e₁₃ : club ≡ number (part 13 1 xs))
    (some : n ≡ cond (between 1 count 8) count 0) (few : n ≤ 8) where
  patch-in : take ((4 + n) - 4) (drop 4 xs) ≡ patch_of (order_in xs)
  unfolding patch_of order_in part
  patch-in =
      let z : (4 + n) - 4 ≡ n = omega arith in
      ap (λ (m : ℕ). take m (drop 4 xs)) z ∙ sym (part-part 4 8 0 n xs (omega arith)) ∙ patch-is count n (part 4 8 xs) some
      ∙ ap (λ (m : ℕ). cond (between 1 m 8) (take m (part 4 8 xs)) []) e₁

  pub bytes-write : (r : ℕ) (s : List ℕ)
      → record { c = c; r = r; offset = offset; patch = take ((4 + n) - 4) (drop 4 xs); called = 0 ∷ []; file = file; sheet = s; club = club } ≡ writing r s (order_in xs)
  unfolding writing order_in
  bytes-write r s = λ i. record { c = e₀ i; r = r; offset = e₂ i; patch = patch-in i; called = 0 ∷ []; file = e₁₂ i; sheet = s; club = e₁₃ i }
