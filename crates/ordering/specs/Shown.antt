-- Rounds of bytes, computed: two machines with two files of nine bytes.
use Rattle.std.specs.Prelude.{◌≡◌, List, [], ◌∷◌, ◌++◌, ℕ, ◌-◌, length, take}
use Rattle.quorums.specs.Starred.{Each}
use Rattle.octets.specs.Bytes.{put, zeros}
use Rattle.fields.specs.Layout.{contents_of}
use Rattle.sheet.specs.Sheet.{count_of}
use Rattle.sheet.specs.Shown.{club, sheet_of}
use Rattle.joining.specs.Joining.{joined}
use Rattle.protocol.specs.Calls.{founded}
use Rattle.ordering.specs.Rounds.{round_in}

pub data Line : Type 0 where
  -- a round of these bytes on this table, with this sheet and answering set: its refusal and value; then the first bytes that row 1 holds of each file, zeros
  -- behind them, and the counts of clubs 1 and 2
  Entered : (table sheet : List ℕ) (r : ℕ) (bytes : List ℕ) (refusal value : ℕ) (one two : List ℕ) (first second : ℕ) → Line

-- what a line says
unfoldable pub Says : Line → Type 0
Says (Entered table sheet r bytes refusal value one two first second) =
    let x = round_in table sheet r bytes in
    (x.refusal ≡ refusal) × (x.value ≡ value) × (contents_of x.table 1 1 ≡ one ++ zeros (9 - length one)) × (contents_of x.table 2 1 ≡ two ++ zeros (9 - length two))
    × (count_of x.sheet 1 ≡ first) × (count_of x.sheet 2 ≡ second)

-- machine 2 has joined and is in nobody's list; and the same with no first row, so that question 1 is no
unfoldable pub start : List ℕ
start = joined (founded 0 2 2 9 (10 ∷ []) (1 ∷ [])) 20 1

unfoldable pub malformed : List ℕ
malformed = put 3 (0 ∷ []) start

-- club 1 is assured of one write and may have two; club 2 may have as many; one write is left beyond the assured one
unfoldable pub shares : ℕ → List ℕ
shares most = sheet_of (club 1 2 0 ∷ club 0 most 0 ∷ []) 2

-- an order: coordinator, length, the offset's low and high byte, a patch, the file, the club, two bytes that are not read
unfoldable pub order : (c length low high file club : ℕ) → List ℕ
order c length low high file club = c ∷ length ∷ low ∷ high ∷ 1 ∷ 2 ∷ 3 ∷ 4 ∷ 5 ∷ 6 ∷ 7 ∷ 8 ∷ file ∷ club ∷ 9 ∷ 9 ∷ []

-- a round that machine 1 alone answers, with club 2's ceiling
unfoldable pub entered : (most : ℕ) (bytes : List ℕ) (refusal value : ℕ) (one two : List ℕ) (first second : ℕ) → Line
entered most = Entered start (shares most) 1

-- none is done: a round on this table, with this sheet and answering set, and its refusal
unfoldable pub none_of : (table sheet : List ℕ) (r : ℕ) (bytes : List ℕ) (refusal : ℕ) → Line
none_of table sheet r bytes refusal = Entered table sheet r bytes refusal 0 [] [] 0 0

-- nor of this order, which machine 1 answers
unfoldable pub turned_down : (bytes : List ℕ) (refusal : ℕ) → Line
turned_down = none_of start (shares 2) 1

unfoldable pub lines : List Line
lines =
    -- an empty list: done, also with nobody answering; row 3 is not used; 1 comes before, of the table and of the sheet
    none_of start (shares 2) 1 [] 0
    ∷ none_of start (shares 2) 0 [] 0
    ∷ none_of start (shares 2) 4 [] 2
    ∷ none_of malformed (shares 2) 4 [] 1
    ∷ none_of start (take 195 (shares 2)) 4 [] 1
    -- a list that ends inside an order: the same questions, then 4; none is done
    ∷ none_of start (shares 2) 1 (take 15 (order 1 1 0 0 1 1)) 4
    ∷ none_of start (shares 2) 1 (order 1 1 0 0 1 1 ++ take 8 (order 1 1 0 0 1 1)) 4
    ∷ none_of start (shares 2) 4 (order 1 1 0 0 1 1 ++ (1 ∷ [])) 2
    -- one order: a byte of file 1 for club 1; eight bytes of file 2, to its end, for club 2
    ∷ entered 2 (order 1 1 0 0 1 1) 0 1 (1 ∷ []) [] 1 0
    ∷ entered 2 (order 1 8 1 0 2 2) 0 1 [] (0 ∷ 1 ∷ 2 ∷ 3 ∷ 4 ∷ 5 ∷ 6 ∷ 7 ∷ 8 ∷ []) 0 1
    -- two orders, of two files for two clubs
    ∷ entered 2 (order 1 3 0 0 1 1 ++ order 1 1 2 0 2 2) 0 2 (1 ∷ 2 ∷ 3 ∷ []) (0 ∷ 0 ∷ 1 ∷ []) 1 1
    -- the later patch lies over the earlier; club 2 takes what is left, club 1 is assured of one, and has no second
    ∷ entered 2 (order 1 3 0 0 1 2 ++ (order 1 2 1 0 1 1 ++ order 1 1 0 0 2 1)) 19 2 (1 ∷ 1 ∷ 2 ∷ []) [] 1 1
    -- the second is refused: the first stays, the third is not made
    ∷ entered 2 (order 1 1 0 0 1 2 ++ (order 255 1 1 0 1 1 ++ order 1 1 2 0 1 1)) 2 1 (1 ∷ []) [] 0 1
    -- a club reaches its ceiling within the round
    ∷ entered 1 (order 1 1 0 0 1 2 ++ order 1 1 1 0 1 2) 18 1 (1 ∷ []) [] 0 1
    -- an order is asked as a write is: a malformed table; a coordinator that is no row, or did not answer; no such file
    ∷ none_of malformed (shares 2) 1 (order 0 1 0 0 1 1) 1
    ∷ none_of start (take 195 (shares 2)) 1 (order 0 1 0 0 1 1) 1
    ∷ turned_down (order 0 1 0 0 1 1) 2
    ∷ turned_down (order 2 1 0 0 1 1) 3
    ∷ turned_down (order 1 1 0 0 0 1) 16
    ∷ turned_down (order 1 1 0 0 3 1) 16
    -- a wrong length, after 3 and 16; a range beyond the file, by the offset's high byte too
    ∷ turned_down (order 1 0 0 0 1 1) 4
    ∷ turned_down (order 1 9 0 0 1 1) 4
    ∷ turned_down (order 2 9 0 0 1 1) 3
    ∷ turned_down (order 1 9 0 0 3 1) 16
    ∷ turned_down (order 1 8 2 0 1 1) 4
    ∷ turned_down (order 1 1 0 1 1 1) 4
    -- no write quorum; no such club
    ∷ none_of start (shares 2) 2 (order 2 1 0 0 1 0) 6
    ∷ turned_down (order 1 1 0 0 1 0) 18
    ∷ turned_down (order 1 1 0 0 1 17) 18
    ∷ []

-- all 29 hold
unfoldable pub ShownHold : Type 0
ShownHold = (length lines ≡ 29) × Each Says lines
