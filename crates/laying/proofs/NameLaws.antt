-- Names in bytes: two bytes each; counties: a byte each.
use mathlib.Core.Path.{◌≡◌, refl}
use mathlib.Core.List.{List, [], ◌∷◌}
use Prim.Native.Nat.{ℕ, zero, suc, ◌+◌, ◌-◌, ◌*◌, ◌%◌, ◌≤◌, ◌<◌}
use native.Mathlib.Omega.{arith}
use lib.ListN.{length, get_or}
use borrow.Author.Tests.{le-leb}
use Rattle.counties.specs.Counties.{county_at}
use Rattle.octets.specs.Bytes.{number, part}
use Rattle.protocol.specs.Calls.{names_in}

-- the name of row k + 1
pub name-at : (k : ℕ) (bytes : List ℕ) → 2 * k + 2 ≤ length bytes → number (part (2 * k) 2 bytes) ≡ get_or (names_in bytes) k 0
unfolding number part names_in
name-at zero [] h = absurd (omega arith)
name-at zero (x ∷ []) h = absurd (omega arith)
name-at zero (x ∷ y ∷ l) h = omega arith
name-at (suc k) [] h = absurd (omega arith)
name-at (suc k) (x ∷ []) h = absurd (omega arith)
name-at (suc k) (x ∷ y ∷ l) h = let e : 2 * suc k ≡ suc (suc (2 * k)) = omega arith in rw e (name-at k l (omega arith))

-- two bytes for each name, where the bytes are even
pub names-even : (bytes : List ℕ) → length bytes % 2 ≡ 0 → length bytes ≡ 2 * length (names_in bytes)
unfolding names_in
names-even [] h = refl
names-even (x ∷ []) h = absurd (omega arith)
names-even (x ∷ y ∷ l) h = let e : length l ≡ 2 * length (names_in l) = names-even l (omega arith) in omega arith

-- the county of row k + 1
pub place_at : (k : ℕ) (places : List ℕ) → k < length places → county_at places (k + 1) ≡ get_or places k 0
unfolding county_at
place_at k places h =
    let z : k + 1 - 1 ≡ k = omega arith in
    rw (le-leb 1 (k + 1) (omega arith), le-leb (k + 1) (length places) (omega arith), z)
