-- A round as the code goes through it, one order after another. Its result so far is the number done, or, once an order is refused, that refusal and the number done.
use Rattle.std.specs.Prelude.{◌≡◌, true, cond, Result, Ok, Err, ◌||◌, List, [], ◌∷◌, ℕ, ◌+◌, ◌-◌, ◌≤◌, eqb, ltb, length, get_or, take}
use Rattle.sets.specs.Upto.{Within}
use Rattle.quorums.specs.declared.Kind.TheVariants.{Write}
use Rattle.fields.specs.Layout.{used_of}
use Rattle.table.specs.WellFormed.{only_rows, well_formed}
use Rattle.grouping.specs.declared.Frame.{Frame}
use Rattle.grouping.specs.Frames.{FrameOf}
use Rattle.grouping.specs.Grouped.{Framed}
use Rattle.asking.specs.Asking.{Question, result_number}
use Rattle.asking.specs.Refusals.{refusal_number}
use Rattle.asking.specs.declared.Refusal.{Refusal}
use Rattle.sheet.specs.Sheet.{remainder, all_beyond, sheet_right}
use Rattle.protocol.specs.Calls.{Writing, write, outcome}
use Rattle.settle.specs.Works.{Known}
use Rattle.ordering.specs.declared.Order.{Order}
use Rattle.ordering.specs.Rounds.{writing}
use Rattle.orders.specs.declared.Turn.{Turn}

-- the result so far, the table and the sheet
pub record Run : Type 0 where
  pub result : ℕ
  pub table : List ℕ
  pub sheet : List ℕ

-- one write more: none after a refusal; a 65th is refused unread
unfoldable pub stepped : Run → Writing → Run
stepped x w =
    let y = outcome x.table (write w) in
    cond (ltb x.result 64)
    (record { result = cond (eqb y.refusal 0) (x.result + 1) (result_number y.refusal x.result); table = y.table; sheet = y.sheet })
    (record { result = cond (eqb x.result 64) (result_number 4 64) x.result; table = x.table; sheet = x.sheet })

-- one order more
unfoldable pub turn : ℕ → Run → Order → Run
turn r x o = stepped x (writing r x.sheet o)

-- what is asked before the first of n orders: question 1, which every write keeps a yes; where there is no order, question 2 for R
unfoldable pub first_questions : List ℕ → List ℕ → ℕ → ℕ → List Question
first_questions t s r n =
    record { ask = 1; yes = sheet_right s }
    ∷ record { ask = 1; yes = well_formed t }
    ∷ record { ask = 2; yes = ltb 0 n || only_rows (used_of t) r }
    ∷ []

-- the choices for a write that were made for the first 16 rows; 0 at the place of a row for which none was
pub record Kept (t choices : List ℕ) : Type 0 where
  pub long : length choices ≡ 16
  pub known : (i : ℕ) → Within (used_of t) i → i ≤ 16 → Known Write t i (get_or choices (i - 1) 0)

-- what question 1 has shown of the sheet and the table, how far the round is, and the choices made
pub record Ready (t s : List ℕ) (frame : Frame) (turn : Turn) (choices : List ℕ) : Type 0 where
  pub framed : FrameOf t frame
  pub right : sheet_right s ≡ true
  pub few : turn.done ≤ 64
  pub spare : turn.left ≡ remainder s - all_beyond s
  pub kept : Kept t choices

-- the frame that the arrays of a round hold
abbrev pub frame_in : List ℕ → List ℕ → List ℕ → Frame
frame_in t order sets = record { chain = take (used_of t) order; counties = sets }

-- the arrays hold the frame of the table, and the next order may come
pub record Opened (t s order sets : List ℕ) (turn : Turn) (choices : List ℕ) : Type 0 where
  pub framed : Framed t order sets
  pub ready : Ready t s (frame_in t order sets) turn choices

-- the result so far after an order more, where it was `done` before: what it is now, by `count`, or, where the round ends here, the refusal and the number done
abbrev pub turned : {A : Type 0} → (A → ℕ) → ℕ → Result A Refusal → ℕ
turned count done (Ok next) = count next
turned count done (Err refusal) = result_number (refusal_number refusal) done
