-- Bytes that are a head of a bytes and then blocks of w bytes, counted from 1: the rows of a table behind its header.
use Rattle.std.specs.Prelude.{Bool, cond, List, [], ◌++◌, ℕ, zero, suc, ◌+◌, ◌*◌}
use Rattle.octets.specs.Bytes.{part, put}

-- block i of xs; there is no block 0
unfoldable pub block : ℕ → ℕ → ℕ → List ℕ → List ℕ
block a w zero xs = []
block a w (suc k) xs = part (a + k * w) w xs

-- xs with block i changed by f, and no other byte
unfoldable pub with_block : ℕ → ℕ → ℕ → (List ℕ → List ℕ) → List ℕ → List ℕ
with_block a w zero f xs = xs
with_block a w (suc k) f xs = put (a + k * w) (f (block a w (suc k) xs)) xs

-- xs with each block i of s among 1 to n changed by f i, and no other byte
unfoldable pub with_blocks : ℕ → ℕ → (ℕ → Bool) → (ℕ → List ℕ → List ℕ) → ℕ → List ℕ → List ℕ
with_blocks a w s f zero xs = xs
with_blocks a w s f (suc n) xs = let u = with_blocks a w s f n xs in cond (s (suc n)) (with_block a w (suc n) (f (suc n)) u) u

-- the lists b 1 to b n, one after another: as blocks behind a head
unfoldable pub in_turn : ℕ → (ℕ → List ℕ) → List ℕ
in_turn zero b = []
in_turn (suc n) b = in_turn n b ++ b (suc n)
