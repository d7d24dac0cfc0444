-- "Fair use of imports": a sheet, from its bytes; when it is right, what it says to a club's write, and what a done write and a changing check leave of it.
use Rattle.std.specs.Prelude.{Bool, true, ◌&&◌, ◌||◌, List, [], ◌∷◌, ℕ, zero, suc, ◌+◌, ◌-◌, eqb, leb, ltb, length}
use Rattle.sets.specs.Upto.{every}
use Rattle.blocks.specs.Blocks.{block, with_block, with_blocks}
use Rattle.fields.specs.Layout.{Field, get, store}
use Rattle.asking.specs.Asking.{Question}

-- f 1 to f n together
unfoldable pub sum : ℕ → (ℕ → ℕ) → ℕ
sum zero f = 0
sum (suc n) f = sum n f + f (suc n)

-- "holds for each of 16 clubs an assured number of writes, a ceiling and a count ..; 4 bytes each, low byte first": the line of club x, the clubs being 1 to 16
unfoldable pub line_of : List ℕ → ℕ → List ℕ
line_of s x = block 0 12 x s

unfoldable pub assured : Field
assured = record { place = 0; width = 4 }

unfoldable pub ceiling : Field
ceiling = record { place = 4; width = 4 }

unfoldable pub counting : Field
counting = record { place = 8; width = 4 }

-- "then a total"
unfoldable pub total : Field
total = record { place = 192; width = 4 }

-- ---- what a sheet says
unfoldable pub assured_of : List ℕ → ℕ → ℕ
assured_of s x = get assured (line_of s x)

unfoldable pub ceiling_of : List ℕ → ℕ → ℕ
ceiling_of s x = get ceiling (line_of s x)

unfoldable pub count_of : List ℕ → ℕ → ℕ
count_of s x = get counting (line_of s x)

unfoldable pub total_of : List ℕ → ℕ
total_of s = get total s

-- "the assured numbers together"
unfoldable pub all_assured : List ℕ → ℕ
all_assured s = sum 16 (assured_of s)

-- "what the total leaves beyond all assured numbers"
unfoldable pub remainder : List ℕ → ℕ
remainder s = total_of s - all_assured s

-- "the counts beyond assured numbers"
unfoldable pub all_beyond : List ℕ → ℕ
all_beyond s = sum 16 (λ x. count_of s x - assured_of s x)

-- ---- question 1, of a sheet
-- "at most 1,000,000 .. Assured is at most the ceiling, the count too": so that the ceiling's limit is that of all three
unfoldable pub line_right : List ℕ → ℕ → Bool
line_right s x = leb (ceiling_of s x) 1_000_000 && leb (assured_of s x) (ceiling_of s x) && leb (count_of s x) (ceiling_of s x)

-- "a total, no less than the assured numbers together; .. 196 bytes in all. .. and the counts beyond assured numbers fit the remainder"
unfoldable pub sheet_right : List ℕ → Bool
sheet_right s =
    eqb (length s) 196 && every 16 (line_right s) && leb (total_of s) 1_000_000 && leb (all_assured s) (total_of s) && leb (all_beyond s) (remainder s)

-- ---- "after question 7"
unfoldable pub is_club : ℕ → Bool
is_club x = leb 1 x && leb x 16

-- "a club at its ceiling or outside 1 to 16 gives 18, then a spent remainder, for a club at or above its assured number, gives 19"; then the questions after
unfoldable pub by_club : List ℕ → ℕ → List Question → List Question
by_club s x qs =
    record { ask = 18; yes = is_club x && ltb (count_of s x) (ceiling_of s x) }
    ∷ record { ask = 19; yes = ltb (count_of s x) (assured_of s x) || ltb (all_beyond s) (remainder s) }
    ∷ qs

-- ---- what is left of it
-- "a done one adds one there"
unfoldable pub counted : List ℕ → ℕ → List ℕ
counted s x = with_block 0 12 x (λ line. store counting (get counting line + 1) line) s

-- "a changing check sets all counts to 0"
unfoldable pub cleared : List ℕ → List ℕ
cleared s = with_blocks 0 12 (λ x. true) (λ x line. store counting 0 line) 16 s
