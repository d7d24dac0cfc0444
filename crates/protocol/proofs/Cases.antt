-- Single calls on tables that no founding leads to.
use mathlib.Core.Bool.{Bool, true, ◌&&◌}
use mathlib.Core.List.{List, [], ◌∷◌, ◌++◌}
use Prim.Native.Nat.{ℕ, zero, suc, ◌+◌, ◌-◌, ◌*◌}
use lib.ListN.{replicate}
use Rattle.sets.specs.Upto.{upward}
use Rattle.octets.specs.Bytes.{bytes_of, put, zeros}
use Rattle.fields.specs.Layout.{stride}
use Rattle.protocol.specs.Calls.{Call, founded}
use Rattle.carrying.proofs.Computed.{early, late}
use Rattle.protocol.proofs.Histories.{rd, wr, mv, Made, Called, steps_hold}

-- on these bytes a call has this refusal, value and buffer
pub data Case : Type 0 where
  On : (table : List ℕ) (call : Call) (refusal value : ℕ) (buffer : List ℕ) → Case
  -- or this refusal, and leaves this in the bytes lent for the size of the set called
  Notes : (table : List ℕ) (call : Call) (refusal : ℕ) (called : List ℕ) → Case

unfoldable pub all_hold : List Case → Bool
all_hold [] = true
all_hold (On t k refusal value buffer ∷ cs) = steps_hold t (Made k refusal value buffer ∷ []) && all_hold cs
all_hold (Notes t k refusal called ∷ cs) = steps_hold t (Called k refusal called ∷ []) && all_hold cs

-- ---- tables
-- a row from its list's second byte to its contents: in county 1, and nothing else
unfoldable pub in_one : List ℕ
in_one = zeros 9 ++ (1 ∷ zeros 17)

-- two used rows of three, one file; row 1 alone is the list in force
unfoldable pub pair : List ℕ
pair =
    (5 ∷ 3 ∷ 2 ∷ 1 ∷ 1 ∷ 0 ∷ 1 ∷ zeros 9)
    ++ ((10 ∷ 0 ∷ 2 ∷ zeros 9) ++ ((1 ∷ 0 ∷ 0 ∷ 0 ∷ 1 ∷ in_one) ++ ((5 ∷ zeros 576)
    ++ ((20 ∷ 0 ∷ zeros 14) ++ ((3 ∷ in_one) ++ ((5 ∷ zeros 576)
    ++ zeros (stride 1 1)))))))

-- where its rows start
unfoldable pub row1 : ℕ
row1 = 16

unfoldable pub row2 : ℕ
row2 = row1 + stride 1 1

unfoldable pub row3 : ℕ
row3 = row2 + stride 1 1

-- a table with the bytes from a place on put to a number, so many bytes wide
unfoldable pub set : (place width value : ℕ) → List ℕ → List ℕ
set place width value t = put place (bytes_of width value) t

-- one used row, of a capacity and a file length
unfoldable pub single : (capacity file_length : ℕ) → List ℕ
single capacity file_length =
    (5 ∷ capacity ∷ 1 ∷ 1 ∷ bytes_of 2 file_length) ++ ((1 ∷ zeros 9)
    ++ ((10 ∷ 0 ∷ zeros 14) ++ ((1 ∷ in_one) ++ (replicate file_length 5 ++ zeros (576 + (capacity - 1) * stride 1 file_length)))))

-- pair with a third row, at an epoch; its list is itself
unfoldable pub third : ℕ → List ℕ
third e = set 2 1 3 (set (row2 + 2) 1 3 (set row3 2 30 (set (row3 + 12) 4 e (set (row3 + 16) 8 4 (set (row3 + 26) 1 1 pair)))))

-- pair with a third row; the list of rows 2 and 3 is all three
unfoldable pub trio : List ℕ
trio = set (row2 + 16) 8 7 (set (row3 + 16) 8 7 (third 0))

-- pair with row 2's list empty, at an epoch
unfoldable pub unlisted : ℕ → List ℕ
unlisted e = set (row2 + 12) 4 e (set (row2 + 16) 8 0 pair)

-- both lists empty
unfoldable pub nobody : List ℕ
nobody = set (row1 + 16) 8 0 (unlisted 0)

-- n rows founded, named 10, 11, ..; and with the grid mark of each put to a number
unfoldable pub full : ℕ → List ℕ
full n = founded 0 n 1 1 (upward n 10) (replicate n 1)

unfoldable pub remarked : (n mark : ℕ) → List ℕ → List ℕ
remarked zero mark t = t
remarked (suc n) mark t = remarked n mark (set (16 + n * stride 1 1 + 24) 1 mark t)

unfoldable pub cases : List Case
cases =
    -- a read copies from the good row of lowest index
    On (set (row2 + 44) 1 6 pair) (rd 2 3 0 1 (9 ∷ [])) 0 0 (5 ∷ [])
    -- how many machines were called: the own choice also where P lacks a row of it; all used rows by a call refused by 6
    ∷ Notes trio (wr 2 3 0 (7 ∷ [])) 0 (3 ∷ [])
    ∷ Notes nobody (wr 1 3 0 (7 ∷ [])) 6 (2 ∷ [])
    -- a move judges by the table's own form, and asks 15 before 12 whatever that form is; its buffer is as long as the new table
    ∷ On (early 1 1 0) (mv 3 (zeros 1_234)) 0 1 (late 1 0)
    ∷ On (early 1 1 2) (mv 3 (9 ∷ [])) 1 0 (9 ∷ [])
    ∷ On (early 2 1 2) (mv 1 (9 ∷ [])) 15 0 (9 ∷ [])
    ∷ On (early 2 1 2) (mv 2 (zeros 82)) 12 0 (zeros 82)
    ∷ On (early 2 1 2) (mv 3 (zeros 1_233)) 12 0 (zeros 1_233)
    ∷ []
