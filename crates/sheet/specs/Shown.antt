-- Sheets computed from both sides: the rules that make one right, what it says to a club, what is left of it.
use Rattle.std.specs.Prelude.{◌≡◌, Bool, true, false, List, [], ◌∷◌, ◌++◌, ℕ, ◌-◌, length, take, get_or}
use Rattle.sets.specs.Upto.{Within}
use Rattle.octets.specs.Bytes.{bytes_of, zeros}
use Rattle.quorums.specs.Starred.{Each}
use Rattle.asking.specs.Asking.{first_no}
use Rattle.sheet.specs.Sheet.{sheet_right, by_club, counted, cleared}

-- a club's assured number, ceiling and count
pub record Club : Type 0 where
  pub a : ℕ
  pub c : ℕ
  pub n : ℕ

abbrev pub club : ℕ → ℕ → ℕ → Club
club a c n = record { a = a; c = c; n = n }

unfoldable pub lines_of : List Club → List ℕ
lines_of [] = []
lines_of (l ∷ ls) = bytes_of 4 l.a ++ (bytes_of 4 l.c ++ (bytes_of 4 l.n ++ lines_of ls))

-- the first clubs' lines, zeros for the others, and a total
unfoldable pub sheet_of : List Club → ℕ → List ℕ
sheet_of ls t = lines_of ls ++ (zeros (192 - length (lines_of ls)) ++ bytes_of 4 t)

-- club 16 alone
unfoldable pub last_only : Club → ℕ → List ℕ
last_only l t = zeros 180 ++ (lines_of (l ∷ []) ++ bytes_of 4 t)

pub data Line : Type 0 where
  -- the sheet is right, or is not
  Right : (sheet : List ℕ) (answer : Bool) → Line
  -- by this right sheet, the first no that the club's write meets among 18 and 19
  Asked : (sheet : List ℕ) (x refusal : ℕ) → Line
  -- the two are the same, byte for byte
  Same : (one other : List ℕ) → Line

-- what a line says
unfoldable pub Says : Line → Type 0
Says (Right sheet answer) = sheet_right sheet ≡ answer
Says (Asked sheet x refusal) = (sheet_right sheet ≡ true) × (first_no (by_club sheet x []) ≡ refusal)
Says (Same one other) = (length one ≡ length other) × ((k : ℕ) → Within 196 k → get_or one (k - 1) 0 ≡ get_or other (k - 1) 0)

-- club 1 at its assured number, club 2 one below, club 3 with none assured and two beyond: of a remainder of 3 one is left, and of 2 none
unfoldable pub three : ℕ → List ℕ
three t = sheet_of (club 5 9 5 ∷ club 4 4 3 ∷ club 0 8 2 ∷ []) t

unfoldable pub right_lines : List Line
right_lines =
    Right (three 12) true
    ∷ Right (three 11) true
    -- two beyond, with room for one
    ∷ Right (three 10) false
    -- a total below the assured numbers together, with nothing beyond
    ∷ Right (sheet_of (club 5 9 5 ∷ club 4 4 3 ∷ []) 9) true
    ∷ Right (sheet_of (club 5 9 5 ∷ club 4 4 3 ∷ []) 8) false
    -- 195 and 197 bytes, and none
    ∷ Right (take 195 (three 12)) false
    ∷ Right (three 12 ++ (0 ∷ [])) false
    ∷ Right [] false
    ∷ Right (zeros 196) true
    -- 1,000,000 and one more: the ceiling, the total
    ∷ Right (sheet_of (club 1_000_000 1_000_000 1_000_000 ∷ []) 1_000_000) true
    ∷ Right (sheet_of (club 0 1_000_001 0 ∷ []) 1_000_000) false
    ∷ Right (sheet_of [] 1_000_001) false
    -- the assured number above the ceiling; the count at it and above it
    ∷ Right (sheet_of (club 4 3 0 ∷ []) 9) false
    ∷ Right (sheet_of (club 4 4 4 ∷ []) 9) true
    ∷ Right (sheet_of (club 0 3 4 ∷ []) 9) false
    -- the last club's line counts, and each of a number's four bytes
    ∷ Right (last_only (club 2 3 3) 2) false
    ∷ Right (last_only (club 2 3 3) 3) true
    ∷ Right (sheet_of (club 0 16_777_216 0 ∷ []) 9) false
    ∷ []

unfoldable pub asked_lines : List Line
asked_lines =
    -- one is left, for whoever comes; none is left but for the club below its assured number
    Asked (three 12) 1 0
    ∷ Asked (three 12) 2 0
    ∷ Asked (three 12) 3 0
    ∷ Asked (three 11) 1 19
    ∷ Asked (three 11) 2 0
    ∷ Asked (three 11) 3 19
    -- a ceiling of 0; all three numbers the same, with a remainder and without; no such club
    ∷ Asked (three 12) 4 18
    ∷ Asked (sheet_of (club 4 4 4 ∷ []) 9) 1 18
    ∷ Asked (sheet_of (club 4 4 4 ∷ []) 4) 1 18
    ∷ Asked (three 12) 0 18
    ∷ Asked (three 12) 17 18
    ∷ Asked (three 12) 4_294_967_297 18
    -- what one more done write makes of it
    ∷ Asked (counted (three 12) 1) 1 19
    ∷ Asked (counted (three 12) 1) 2 0
    ∷ Asked (counted (three 11) 2) 2 18
    ∷ Asked (cleared (three 11)) 3 0
    ∷ []

unfoldable pub left_lines : List Line
left_lines =
    Same (counted (three 12) 1) (sheet_of (club 5 9 6 ∷ club 4 4 3 ∷ club 0 8 2 ∷ []) 12)
    ∷ Same (counted (three 11) 2) (sheet_of (club 5 9 5 ∷ club 4 4 4 ∷ club 0 8 2 ∷ []) 11)
    ∷ Same (counted (sheet_of (club 0 999 255 ∷ []) 999) 1) (sheet_of (club 0 999 256 ∷ []) 999)
    ∷ Same (counted (last_only (club 2 3 2) 3) 16) (last_only (club 2 3 3) 3)
    ∷ Same (cleared (three 12)) (sheet_of (club 5 9 0 ∷ club 4 4 0 ∷ club 0 8 0 ∷ []) 12)
    ∷ Same (cleared (last_only (club 2 3 3) 3)) (last_only (club 2 3 0) 3)
    ∷ []

-- all 40 hold
unfoldable pub ShownHold : Type 0
ShownHold =
    ((length right_lines ≡ 18) × Each Says right_lines)
    × ((length asked_lines ≡ 16) × Each Says asked_lines)
    × ((length left_lines ≡ 6) × Each Says left_lines)
