-- How the code looks through many bytes at once.
use Rattle.std.specs.Prelude.{Bool, ◌&&◌, List, ℕ, zero, suc, ◌+◌, ◌*◌, ◌^◌, eqb, get_or}

-- the byte at k is 0, and so are those behind it in steps, 2 ^ n of them
unfoldable pub blank : ℕ → List ℕ → ℕ → ℕ → Bool
blank zero s step k = eqb (get_or s k 0) 0
blank (suc n) s step k = blank n s step k && blank n s step (2 ^ n * step + k)
