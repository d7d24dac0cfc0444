-- Windows written down byte by byte and by writes in a row; sends from them.
use mathlib.Core.Bool.{Bool, true, false, not, ◌&&◌}
use mathlib.Core.List.{List, [], ◌∷◌, ◌++◌, map}
use Prim.Native.Nat.{ℕ, zero, suc, ◌+◌, ◌-◌}
use lib.Dec.{eqb}
use lib.ListN.{replicate}
use Rattle.sets.specs.Upto.{upward}
use Rattle.octets.specs.Bytes.{bytes_of, put, zeros}
use Rattle.window.specs.Windows.{Window, Patch, path, patches, window_right, emptied, added, sent}

unfoldable pub same : List ℕ → List ℕ → Bool
same [] [] = true
same [] (y ∷ ys) = false
same (x ∷ xs) [] = false
same (x ∷ xs) (y ∷ ys) = eqb x y && same xs ys

unfoldable pub all_true : List Bool → Bool
all_true [] = true
all_true (b ∷ bs) = b && all_true bs

-- ---- windows by writes in a row: byte 100 + k at offset k
unfoldable pub one : ℕ → Patch
one k = record { offset = k; bytes = (100 + k) ∷ [] }

-- n bytes from offset 3 on
unfoldable pub run : ℕ → Patch
run n = record { offset = 3; bytes = replicate n 7 }

unfoldable pub after : ℕ → Window
after zero = emptied
after (suc n) = added (one (suc n)) (after n)

unfoldable pub offsets : Window → List ℕ
offsets w = map (λ (p : Patch). p.offset) (patches w)

-- ---- windows byte by byte: a record of one byte at an offset
unfoldable pub line : ℕ → ℕ → List ℕ
line next offset = next ∷ 1 ∷ (bytes_of 2 offset ++ (9 ∷ zeros 31))

unfoldable pub window : ℕ → List (List ℕ) → Window
window oldest lines = record { oldest = oldest; records = joined lines (zeros 576) 0 }
  where
    joined : List (List ℕ) → List ℕ → ℕ → List ℕ
    joined [] xs at = xs
    joined (l ∷ ls) xs at = joined ls (put at l xs) (at + 36)

-- record 3 is the oldest, then 1, then 2
unfoldable pub crossed : List (List ℕ)
crossed = line 2 10 ∷ line 0 20 ∷ line 1 30 ∷ []

-- each record's next is the one before it
unfoldable pub downward : ℕ → List (List ℕ)
downward zero = []
downward (suc n) = downward n ++ (line n (suc n) ∷ [])

-- one byte of the window's records changed
unfoldable pub set : ℕ → ℕ → Window → Window
set at v w = record { oldest = w.oldest; records = put at (v ∷ []) w.records }

unfoldable pub right : Window → Bool
right w = window_right 40 5 w

-- what a send lays over ten zero bytes; the sender's own contents are 1 2 3
unfoldable pub lays : ℕ → Window → List ℕ → Bool
lays missing w bytes = same (sent missing w (1 ∷ 2 ∷ 3 ∷ []) (zeros 5)) bytes

unfoldable pub cases : List Bool
cases =
    -- ---- writes in a row
    same (path emptied) []
    ∷ same (path (after 3)) (1 ∷ 2 ∷ 3 ∷ [])
    ∷ same (offsets (after 3)) (1 ∷ 2 ∷ 3 ∷ [])
    ∷ same (path (after 16)) (upward 16 1)
    ∷ same (path (after 17)) (upward 15 2 ++ (1 ∷ []))
    ∷ same (offsets (after 17)) (upward 16 2)
    ∷ same (path (after 18)) (upward 14 3 ++ (1 ∷ 2 ∷ []))
    -- ---- 32 and 33 bytes
    ∷ same (offsets (added (run 32) (after 1))) (1 ∷ 3 ∷ [])
    ∷ same (added (run 32) emptied).records (0 ∷ 32 ∷ 3 ∷ 0 ∷ (replicate 32 7 ++ zeros 540))
    ∷ eqb (added (run 33) (after 17)).oldest 0
    ∷ same (added (run 33) (after 17)).records (zeros 576)
    -- ---- a chain in another order: the lowest free record, behind the youngest
    ∷ same (path (window 3 crossed)) (3 ∷ 1 ∷ 2 ∷ [])
    ∷ same (offsets (window 3 crossed)) (30 ∷ 10 ∷ 20 ∷ [])
    ∷ same (path (added (one 4) (window 3 crossed))) (3 ∷ 1 ∷ 2 ∷ 4 ∷ [])
    -- ---- and where none is free, the oldest one's
    ∷ same (path (added (one 4) (window 16 (downward 16)))) (15 ∷ 14 ∷ 13 ∷ 12 ∷ 11 ∷ 10 ∷ 9 ∷ 8 ∷ 7 ∷ 6 ∷ 5 ∷ 4 ∷ 3 ∷ 2 ∷ 1 ∷ 16 ∷ [])
    -- ---- question 1: each rule broken, beside what is nearest to it and passes
    ∷ right emptied
    ∷ right (window 3 crossed)
    ∷ window_right 40 16 (window 16 (downward 16))
    ∷ not (window_right 40 15 (window 16 (downward 16)))
    -- the oldest: none of a window that has records, one of a window that has none, one that is none of the 16
    ∷ not (right (window 0 crossed))
    ∷ not (right (window 1 []))
    ∷ not (right (window 17 []))
    -- the chain: too short, in a ring, of a record too much, past a record
    ∷ not (right (window 1 crossed))
    ∷ not (right (set 36 3 (window 3 crossed)))
    ∷ not (right (set 36 4 (window 3 crossed)))
    ∷ not (right (window 1 (line 3 1 ∷ zeros 36 ∷ line 0 2 ∷ [])))
    -- as many as the version
    ∷ window_right 40 3 (window 3 crossed)
    ∷ not (window_right 40 2 (window 3 crossed))
    -- the rest zero
    ∷ not (right (set 108 1 (window 3 crossed)))
    ∷ not (right (set 575 1 (window 3 crossed)))
    -- 1 to 32 bytes
    ∷ not (right (set 37 0 (window 3 crossed)))
    ∷ right (set 37 20 (window 3 crossed))
    ∷ window_right 60 5 (set 37 32 (window 3 crossed))
    ∷ not (window_right 60 5 (set 37 33 (window 3 crossed)))
    -- within the file
    ∷ window_right 31 5 (window 3 crossed)
    ∷ not (window_right 30 5 (window 3 crossed))
    ∷ not (right (set 39 1 (window 3 crossed)))
    -- zeros behind the patch
    ∷ not (right (set 41 1 (window 3 crossed)))
    ∷ not (right (set 71 1 (window 3 crossed)))
    -- ---- sends: none missing, the last, all that there are, one more
    ∷ lays 0 (after 3) (0 ∷ 0 ∷ 0 ∷ 0 ∷ 0 ∷ [])
    ∷ lays 1 (after 3) (0 ∷ 0 ∷ 0 ∷ 103 ∷ 0 ∷ [])
    ∷ lays 3 (after 3) (0 ∷ 101 ∷ 102 ∷ 103 ∷ 0 ∷ [])
    ∷ lays 4 (after 3) (1 ∷ 2 ∷ 3 ∷ [])
    ∷ lays 2 (added (run 2) (after 3)) (0 ∷ 0 ∷ 0 ∷ 7 ∷ 7 ∷ [])
    ∷ []
