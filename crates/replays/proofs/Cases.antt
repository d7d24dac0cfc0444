-- Single calls on tables that no founding leads to, and foundings: what the histories do not reach.
use mathlib.Core.Bool.{Bool, true, not, ◌&&◌}
use mathlib.Core.List.{List, [], ◌∷◌, ◌++◌}
use Prim.Native.Nat.{ℕ, ◌+◌, ◌-◌, ◌*◌, ◌/◌}
use lib.Dec.{eqb}
use lib.ListN.{length, take, replicate}
use Rattle.sets.specs.Upto.{upward}
use Rattle.octets.specs.Bytes.{zeros}
use Rattle.fields.specs.Layout.{Field, get, stride, mark, oldest, version, desired, epoch, members, records, row_bytes, copy_bytes, contents_of}
use Rattle.protocol.specs.Calls.{outcome}
use Rattle.protocol.proofs.Histories.{fo, jn, rdq, wrq, snq, rdc, wrc, rd, wr, ck, same}
use Rattle.protocol.proofs.Cases.{Case, On, Notes, pair, row1, row2, row3, set, single, third, unlisted, nobody, full, remarked}

-- ---- calls
-- a check by row 0: refused by 1, or by 2 where question 1 is passed
unfoldable pub malformed : List ℕ → Case
malformed t = On t (ck 0 0) 1 0 []

unfoldable pub formed : List ℕ → Case
formed t = On t (ck 0 0) 2 0 []

-- names below 256, two bytes each
unfoldable pub two_bytes : List ℕ → List ℕ
two_bytes [] = []
two_bytes (x ∷ xs) = x ∷ 0 ∷ two_bytes xs

-- a founding on so many bytes, all rows in county 1
unfoldable pub founds : (size capacity file_length : ℕ) (names : List ℕ) (refusal value : ℕ) → Case
founds size capacity file_length names refusal value = On (zeros size) (fo capacity file_length names 0 1 (replicate (length names / 2) 1)) refusal value []

-- a row's head from its list on: of rows 1 to 8, and in county 1
unfoldable pub listed : (rows : ℕ) → List ℕ
listed rows = (rows ∷ zeros 9) ++ (1 ∷ zeros 5)

-- one used row, with a blank copy of each of so many files of one byte
unfoldable pub grouped : (files : ℕ) → List ℕ
grouped files = (5 ∷ 1 ∷ 1 ∷ 1 ∷ 1 ∷ 0 ∷ files ∷ zeros 9) ++ ((10 ∷ zeros 15) ++ (listed 1 ++ zeros (files * 589)))

-- where row 1's copy of file 2 starts
unfoldable pub last : ℕ
last = row1 + 32 + 589

unfoldable pub cases : List Case
cases =
    -- ---- question 1: each rule broken, beside what is nearest to it and passes
    -- form
    formed pair
    ∷ malformed (set 0 1 1 pair)
    ∷ malformed (set 0 1 2 pair)
    -- capacity
    ∷ malformed (set 1 1 0 pair)
    ∷ formed (single 64 1)
    ∷ malformed (single 65 1)
    -- rows used
    ∷ malformed (set 2 1 0 pair)
    ∷ formed (set 1 1 2 (take row3 pair))
    ∷ malformed (set 1 1 2 (set 2 1 3 (take row3 pair)))
    ∷ malformed (set 1 1 1 (take row2 pair))
    -- first row
    ∷ malformed (set 3 1 0 pair)
    ∷ malformed (set 3 1 3 pair)
    -- file length
    ∷ malformed (single 1 0)
    ∷ formed (single 1 1)
    ∷ formed (single 1 4_096)
    ∷ malformed (single 1 4_097)
    -- the number of files, and the table's length by it
    ∷ malformed (grouped 0)
    ∷ formed (grouped 2)
    ∷ formed (grouped 8)
    ∷ malformed (grouped 9)
    ∷ malformed (set 6 1 2 pair)
    -- each rule of a copy, in the last file: mark, oldest record, zeros, version, desired version; its contents
    ∷ malformed (set last 1 2 (grouped 2))
    ∷ malformed (set (last + 1) 1 1 (grouped 2))
    ∷ malformed (set (last + 2) 1 1 (grouped 2))
    ∷ malformed (set (last + 4) 4 1_000_001 (grouped 2))
    ∷ malformed (set (last + 8) 4 1 (grouped 2))
    ∷ formed (set (last + 12) 1 7 (grouped 2))
    -- the rest of the header
    ∷ malformed (set 7 1 1 pair)
    ∷ malformed (set 15 1 1 pair)
    -- the table's length
    ∷ malformed (pair ++ (0 ∷ []))
    ∷ malformed (take (row3 + stride 1 1 - 1) pair)
    ∷ malformed (take 16 pair)
    ∷ malformed []
    -- names
    ∷ malformed (set row1 2 0 pair)
    ∷ formed (set row1 2 1 pair)
    ∷ formed (set row2 2 65_535 pair)
    ∷ malformed (set row2 2 9 pair)
    ∷ malformed (set row2 2 10 pair)
    ∷ formed (set row2 2 11 pair)
    -- links: above the used rows, a ring, an end too early; the other way round
    ∷ malformed (set (row2 + 2) 1 3 pair)
    ∷ malformed (set (row2 + 2) 1 1 pair)
    ∷ malformed (set (row2 + 2) 1 2 pair)
    ∷ malformed (set (row1 + 2) 1 0 pair)
    ∷ malformed (set 3 1 2 pair)
    ∷ formed (set 3 1 2 (set (row1 + 2) 1 0 (set row2 2 5 (set (row2 + 2) 1 1 pair))))
    -- mark and desired version
    ∷ malformed (set (row2 + 32) 1 2 pair)
    ∷ malformed (set (row2 + 32) 1 1 pair)
    ∷ formed (set (row2 + 32) 1 1 (set (row2 + 40) 4 1 pair))
    ∷ malformed (set (row2 + 40) 4 1 pair)
    ∷ malformed (set (row2 + 32) 1 1 (set (row2 + 36) 4 2 (set (row2 + 40) 4 2 pair)))
    ∷ formed (set (row2 + 32) 1 1 (set (row2 + 36) 4 2 (set (row2 + 40) 4 3 pair)))
    -- the three numbers
    ∷ formed (set (row2 + 36) 4 1_000_000 pair)
    ∷ malformed (set (row2 + 36) 4 1_000_001 pair)
    ∷ formed (set (row2 + 32) 1 1 (set (row2 + 40) 4 1_000_000 pair))
    ∷ malformed (set (row2 + 32) 1 1 (set (row2 + 40) 4 1_000_001 pair))
    ∷ formed (set (row1 + 12) 4 1_000_000 pair)
    ∷ malformed (set (row1 + 12) 4 1_000_001 pair)
    -- lists: a row that is not used, the own row missing, two lists in one epoch
    ∷ malformed (set (row2 + 16) 8 7 pair)
    ∷ malformed (set (row2 + 16) 8 1 pair)
    ∷ formed (set (row2 + 16) 8 2 pair)
    ∷ malformed (set (row1 + 12) 4 0 pair)
    -- an empty list: the own row need not be in it, nor need it be that of its epoch, whichever row comes first; all lists empty
    ∷ formed (unlisted 0)
    ∷ formed (unlisted 1)
    ∷ formed (set (row1 + 12) 4 0 (set (row1 + 16) 8 0 pair))
    ∷ formed nobody
    -- grid marks: 1 for five alone, 0 for every length; one mark for an epoch
    ∷ formed (full 4)
    ∷ malformed (remarked 4 1 (full 4))
    ∷ formed (full 5)
    ∷ formed (remarked 5 0 (full 5))
    ∷ formed (remarked 5 2 (full 5))
    ∷ malformed (remarked 5 3 (full 5))
    ∷ malformed (set (row2 + 24) 1 0 (full 5))
    ∷ malformed (remarked 6 1 (full 6))
    ∷ malformed (set (row2 + 24) 1 1 (unlisted 0))
    -- a tall table: every list has mark 2, whatever its epoch; an empty one has mark 0
    ∷ formed (remarked 2 2 pair)
    ∷ malformed (set (row1 + 24) 1 2 pair)
    ∷ malformed (set (row2 + 24) 1 2 pair)
    ∷ formed (set (row1 + 24) 1 2 (unlisted 0))
    ∷ malformed (remarked 2 2 (unlisted 0))
    -- counties; a list of two has mark 3 in a wide table and 2 in a tall one, whichever five it is, and no other list has mark 3
    ∷ malformed (set (row2 + 26) 1 0 pair)
    ∷ formed (set (row1 + 26) 1 8 (set (row2 + 16) 8 2 pair))
    ∷ malformed (set (row2 + 26) 1 9 pair)
    ∷ malformed (set (row2 + 26) 1 2 pair)
    ∷ formed (set (row2 + 24) 1 3 (set (row2 + 26) 1 2 pair))
    ∷ malformed (remarked 2 3 (set (row2 + 26) 1 2 pair))
    ∷ malformed (set (row2 + 24) 1 3 pair)
    ∷ formed (remarked 2 2 (set (row2 + 26) 1 2 pair))
    ∷ malformed (set (row1 + 24) 1 2 (set (row2 + 24) 1 3 (set (row2 + 26) 1 2 pair)))
    ∷ malformed (set (row2 + 26) 1 2 (full 5))
    ∷ formed (remarked 5 3 (set (row2 + 26) 1 2 (full 5)))
    ∷ malformed (remarked 5 0 (set (row2 + 26) 1 2 (full 5)))
    -- zeros of a row; its contents; an unused row
    ∷ malformed (set (row1 + 3) 1 1 pair)
    ∷ malformed (set (row1 + 11) 1 1 pair)
    ∷ malformed (set (row1 + 25) 1 1 pair)
    ∷ malformed (set (row1 + 27) 1 1 pair)
    -- a copy's: the oldest record of an empty window, the two zeros
    ∷ malformed (set (row1 + 33) 1 1 pair)
    ∷ malformed (set (row1 + 34) 1 1 pair)
    ∷ malformed (set (row2 + 35) 1 1 pair)
    ∷ malformed (set (row2 + 31) 1 1 pair)
    ∷ formed (set (row2 + 44) 1 1 pair)
    ∷ malformed (set row3 1 1 pair)
    ∷ malformed (set (row3 + 44) 1 1 pair)
    -- ---- a row with an empty list is passed over, whatever its epoch; with such rows alone question 6 is no
    ∷ On (unlisted 900_000) (ck 1 3) 0 2 []
    ∷ On (unlisted 900_000) (ck 1 1) 0 1 []
    ∷ On (unlisted 1) (rd 2 3 0 1 (9 ∷ [])) 0 0 (5 ∷ [])
    ∷ On (unlisted 900_000) (rd 2 2 0 1 (9 ∷ [])) 6 0 (9 ∷ [])
    ∷ On nobody (rd 1 3 0 1 (9 ∷ [])) 6 0 (9 ∷ [])
    ∷ On nobody (wr 1 3 0 (7 ∷ [])) 6 0 []
    ∷ On nobody (ck 1 3) 6 0 []
    -- ---- how many machines were called: the coordinator's own choice where the call stayed with P, also a P that is R, or lacks a row of the choice
    ∷ Notes (full 5) (wr 1 31 0 (7 ∷ [])) 0 (4 ∷ [])
    ∷ Notes (full 5) (rd 4 12 0 1 (9 ∷ [])) 0 (2 ∷ [])
    ∷ Notes (full 5) (wr 2 31 0 (7 ∷ [])) 0 (3 ∷ [])
    -- all used rows where it went on to R: done, refused by 6, by a coordinator without a list
    ∷ Notes (full 5) (rd 1 25 0 1 (9 ∷ [])) 0 (5 ∷ [])
    ∷ Notes (full 5) (rd 1 5 0 1 (9 ∷ [])) 6 (5 ∷ [])
    ∷ Notes (unlisted 1) (rd 2 3 0 1 (9 ∷ [])) 0 (2 ∷ [])
    -- what P called where 8 is no; 0 before question 6
    ∷ Notes (set (row1 + 36) 4 1_000_000 pair) (wr 1 1 0 (7 ∷ [])) 8 (1 ∷ [])
    ∷ Notes (set 0 1 0 pair) (rdc 2 3 0 1 (9 ∷ []) (9 ∷ [])) 1 (0 ∷ [])
    ∷ Notes pair (rdc 3 3 0 1 (9 ∷ []) (9 ∷ [])) 2 (0 ∷ [])
    ∷ Notes pair (wrc 2 1 0 (7 ∷ []) (9 ∷ [])) 3 (0 ∷ [])
    ∷ Notes pair (wrc 2 3 1 (7 ∷ []) (9 ∷ [])) 4 (0 ∷ [])
    ∷ Notes pair (rdc 2 3 0 1 [] (9 ∷ [])) 5 (0 ∷ [])
    -- a list of another length is left alone and refused by 5, after 4
    ∷ Notes pair (rdc 2 3 0 1 (9 ∷ []) []) 5 []
    ∷ Notes pair (rdc 2 3 0 1 (9 ∷ []) (9 ∷ 9 ∷ [])) 5 (9 ∷ 9 ∷ [])
    ∷ Notes pair (wrc 2 3 0 (7 ∷ []) []) 5 []
    ∷ Notes pair (wrc 2 3 0 (7 ∷ []) (9 ∷ 9 ∷ [])) 5 (9 ∷ 9 ∷ [])
    ∷ Notes pair (rdc 2 3 1 1 (9 ∷ []) []) 4 []
    ∷ Notes pair (wrc 2 3 1 (7 ∷ []) []) 4 []
    -- ---- a published five that was carried over keeps its grid, also through a check of all five; the new five does not need its third row
    ∷ On (full 5) (rd 1 27 0 1 (9 ∷ [])) 0 0 (0 ∷ [])
    ∷ On (remarked 5 0 (full 5)) (rd 1 27 0 1 (9 ∷ [])) 6 0 (9 ∷ [])
    ∷ On (remarked 5 0 (full 5)) (rd 1 7 0 1 (9 ∷ [])) 0 0 (0 ∷ [])
    ∷ On (outcome (remarked 5 0 (full 5)) (ck 1 31)).table (rd 1 27 0 1 (9 ∷ [])) 6 0 (9 ∷ [])
    -- ---- joining: 1, then 13 (name 0, above 65,535, in use), then 14, then 20
    ∷ On pair (jn 15 1) 0 3 []
    ∷ On pair (jn 1 1) 0 3 []
    ∷ On pair (jn 65_535 1) 0 3 []
    ∷ On pair (jn 0 1) 13 0 []
    ∷ On pair (jn 65_536 1) 13 0 []
    ∷ On pair (jn 20 1) 13 0 []
    ∷ On (set 0 1 0 pair) (jn 0 1) 1 0 []
    ∷ On (set 1 1 2 (take row3 pair)) (jn 10 1) 13 0 []
    ∷ On (set 1 1 2 (take row3 pair)) (jn 15 1) 14 0 []
    ∷ On pair (jn 15 8) 0 3 []
    ∷ On pair (jn 15 0) 20 0 []
    ∷ On pair (jn 15 9) 20 0 []
    ∷ On pair (jn 15 4_294_967_297) 20 0 []
    ∷ On pair (jn 0 0) 13 0 []
    ∷ On (set 1 1 2 (take row3 pair)) (jn 15 0) 14 0 []
    ∷ formed (outcome pair (jn 15 1)).table
    ∷ formed (outcome pair (jn 15 2)).table
    ∷ formed (outcome nobody (jn 1 1)).table
    -- ---- question 8, of a write and of a check that changes the list; one that does not is done
    ∷ On (set (row1 + 36) 4 999_999 pair) (wr 1 1 0 (7 ∷ [])) 0 1_000_000 []
    ∷ On (set (row1 + 36) 4 1_000_000 pair) (wr 1 1 0 (7 ∷ [])) 8 0 []
    ∷ On (set (row1 + 12) 4 999_999 pair) (ck 1 3) 0 1_000_000 []
    ∷ On (set (row1 + 12) 4 1_000_000 pair) (ck 1 3) 8 0 []
    ∷ On (set (row1 + 12) 4 1_000_000 pair) (ck 1 1) 0 1_000_000 []
    -- ---- a check may leave a table that question 1 turns down: row 3, which did not answer, has the new epoch with another list
    ∷ formed (third 2)
    ∷ On (third 2) (ck 1 3) 0 2 []
    ∷ malformed (outcome (third 2) (ck 1 3)).table
    ∷ formed (outcome (third 3) (ck 1 3)).table
    -- ---- question 11: 1 to 64 names, strictly rising, none 0, two bytes each
    ∷ founds 637 1 1 [] 11 0
    ∷ founds 637 1 1 (10 ∷ []) 11 0
    ∷ founds 637 1 1 (10 ∷ 0 ∷ []) 0 1
    ∷ founds 637 1 1 (10 ∷ 0 ∷ 20 ∷ []) 11 0
    ∷ founds 39_760 64 1 (two_bytes (upward 64 1)) 0 64
    ∷ founds 637 1 1 (two_bytes (upward 65 1)) 11 0
    ∷ founds 637 1 1 (0 ∷ 0 ∷ []) 11 0
    ∷ founds 1_258 2 1 (10 ∷ 0 ∷ 9 ∷ 0 ∷ []) 11 0
    ∷ founds 1_258 2 1 (10 ∷ 0 ∷ 10 ∷ 0 ∷ []) 11 0
    -- ---- question 12; the value is the rows used, not the capacity
    ∷ founds 1_258 2 1 (10 ∷ 0 ∷ 11 ∷ 0 ∷ []) 0 2
    ∷ founds 1_879 3 1 (10 ∷ 0 ∷ 11 ∷ 0 ∷ []) 0 2
    ∷ founds 637 1 1 (10 ∷ 0 ∷ 11 ∷ 0 ∷ []) 12 0
    ∷ founds 16 0 1 (10 ∷ 0 ∷ []) 12 0
    ∷ founds 40_381 65 1 (10 ∷ 0 ∷ []) 12 0
    ∷ founds 636 1 0 (10 ∷ 0 ∷ []) 12 0
    ∷ founds 4_732 1 4_096 (10 ∷ 0 ∷ []) 0 1
    ∷ founds 4_733 1 4_097 (10 ∷ 0 ∷ []) 12 0
    ∷ founds 636 1 1 (10 ∷ 0 ∷ []) 12 0
    ∷ founds 638 1 1 (10 ∷ 0 ∷ []) 12 0
    -- ---- 1 to 8 files
    ∷ On (zeros 48) (fo 1 1 (10 ∷ 0 ∷ []) 0 0 (1 ∷ [])) 12 0 []
    ∷ On (zeros 1_226) (fo 1 1 (10 ∷ 0 ∷ []) 0 2 (1 ∷ [])) 0 1 []
    ∷ On (zeros 4_760) (fo 1 1 (10 ∷ 0 ∷ []) 0 8 (1 ∷ [])) 0 1 []
    ∷ On (zeros 5_349) (fo 1 1 (10 ∷ 0 ∷ []) 0 9 (1 ∷ [])) 12 0 []
    -- ---- 16 after 3 and before 4, and before 9, by which a marked sender is refused; then nothing is noted
    ∷ On pair (wrq 0 2 3 9 (7 ∷ []) (0 ∷ [])) 16 0 []
    ∷ On pair (wrq 2 2 3 9 (7 ∷ []) (0 ∷ [])) 16 0 []
    ∷ On pair (wrq 2 2 1 9 (7 ∷ []) (0 ∷ [])) 3 0 []
    ∷ On pair (rdq 4_294_967_297 2 3 0 1 [] []) 16 0 []
    ∷ On (set (row1 + 32) 1 1 (set (row1 + 40) 4 1 pair)) (snq 2 1 2 3) 16 0 []
    ∷ On (set (row1 + 32) 1 1 (set (row1 + 40) 4 1 pair)) (snq 1 1 2 3) 9 0 []
    ∷ On pair (snq 2 1 2 1) 3 0 []
    ∷ Notes pair (wrq 2 2 3 0 (7 ∷ []) (9 ∷ [])) 16 (0 ∷ [])
    -- ---- the choice is 0 or 1
    ∷ On (zeros 637) (fo 1 1 (10 ∷ 0 ∷ []) 1 1 (1 ∷ [])) 0 1 []
    ∷ On (zeros 637) (fo 1 1 (10 ∷ 0 ∷ []) 2 1 (1 ∷ [])) 11 0 []
    -- ---- 11 before 12, 12 before 20: a county outside 1 to 8, counties not as many as the names
    ∷ founds 0 0 0 [] 11 0
    ∷ On (zeros 636) (fo 1 1 (10 ∷ 0 ∷ []) 0 1 []) 12 0 []
    ∷ On (zeros 637) (fo 1 1 (10 ∷ 0 ∷ []) 0 1 []) 20 0 []
    ∷ On (zeros 637) (fo 1 1 (10 ∷ 0 ∷ []) 0 1 (1 ∷ 1 ∷ [])) 20 0 []
    ∷ On (zeros 637) (fo 1 1 (10 ∷ 0 ∷ []) 0 1 (0 ∷ [])) 20 0 []
    ∷ On (zeros 637) (fo 1 1 (10 ∷ 0 ∷ []) 0 1 (9 ∷ [])) 20 0 []
    ∷ On (zeros 637) (fo 1 1 (10 ∷ 0 ∷ []) 0 1 (8 ∷ [])) 0 1 []
    ∷ []

-- ---- a table with every field of a copy changed, of a file of one byte: where the copy starts
unfoldable pub touched : (place : ℕ) → List ℕ → List ℕ
touched place t = set place 2 257 (set (place + 4) 4 1 (set (place + 8) 4 2 (set (place + 12) 1 6 (set (place + 14) 1 1 (set (place + 17) 1 6 t)))))

-- pair with every field of row 2 changed but name and link
unfoldable pub other : List ℕ
other = touched (row2 + 32) (set (row2 + 12) 4 2 (set (row2 + 16) 8 2 pair))

-- two rows and two files; and with every field of file 2 changed
unfoldable pub doubled : List ℕ
doubled =
    (5 ∷ 2 ∷ 2 ∷ 1 ∷ 1 ∷ 0 ∷ 2 ∷ zeros 9)
    ++ ((10 ∷ 0 ∷ 2 ∷ zeros 13) ++ (listed 3 ++ (zeros 1_178
    ++ ((20 ∷ 0 ∷ zeros 14) ++ (listed 3 ++ zeros 1_178)))))

unfoldable pub elsewhere : List ℕ
elsewhere = touched last (touched (last + stride 2 1) doubled)

-- these fields differ
unfoldable pub differ : List ℕ → List ℕ → List Field → Bool
differ xs ys [] = true
differ xs ys (f ∷ fs) = not (eqb (get f xs) (get f ys)) && differ xs ys fs

-- all that row i says of file q does
unfoldable pub unlike : List ℕ → List ℕ → (q i : ℕ) → Bool
unlike t u q i =
    differ (copy_bytes t q i) (copy_bytes u q i) (mark ∷ oldest ∷ version ∷ desired ∷ [])
    && (not (same (contents_of t q i) (contents_of u q i)) && not (same (records (copy_bytes t q i)) (records (copy_bytes u q i))))

unfoldable pub all_differ : Bool
all_differ = differ (row_bytes pair 2) (row_bytes other 2) (epoch ∷ members ∷ []) && (unlike pair other 1 2 && (unlike doubled elsewhere 2 1 && unlike doubled elsewhere 2 2))
