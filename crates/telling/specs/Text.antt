-- Texts as bytes: characters, numbers in decimal figures, spaces behind.
use Rattle.std.specs.Prelude.{List, [], ◌∷◌, ◌++◌, ℕ, zero, suc, ◌+◌, ◌-◌, ◌*◌, ◌/◌, ◌%◌, length, get_or, replicate}
use Prim.Native.Char.{code}
use Prim.Native.String.{String, [] as end, ◌∷◌ as ◌before◌}

-- the bytes of a text in ASCII
unfoldable pub in_bytes : String → List ℕ
in_bytes end = []
in_bytes (c before text) = code c ∷ in_bytes text

-- v in k decimal figures, the highest first: 48 is 0, 57 is 9
unfoldable pub decimal : ℕ → ℕ → List ℕ
decimal zero v = []
decimal (suc k) v = decimal k (v / 10) ++ ((48 + v % 10) ∷ [])

-- the number that figures show, behind others that show n
unfoldable pub shown : ℕ → List ℕ → ℕ
shown n [] = n
shown n (x ∷ xs) = shown (n * 10 + (x - 48)) xs

-- n spaces
unfoldable pub spaces : ℕ → List ℕ
spaces n = replicate n 32

-- a text and spaces behind it, n bytes together
unfoldable pub padded : ℕ → List ℕ → List ℕ
padded n text = text ++ spaces (n - length text)

-- the last byte of a text, 0 where it has none
unfoldable pub last_of : List ℕ → ℕ
last_of text = get_or text (length text - 1) 0
