-- An answer in code is a value, or why the call is refused: the papers' numbers of both.
use Rattle.std.specs.Prelude.{ℕ, Result, Ok, Err}
use Rattle.asking.specs.declared.Refusal.{Refusal}
use Rattle.asking.specs.declared.Refusal.TheVariants.{NotWellFormed, UnknownRow, NotAnswering, WrongRange, WrongSpace, NoQuorum, NotCurrent, AtLimit, StaleSource, NotWaiting, WrongNames, WrongSizes, NameTaken, TableFull, NotPlain, UnknownFile, NoChart, ClubSpent, ShareSpent, WrongCounty}
use Rattle.asking.specs.Asking.{result_number}

-- the question that each refusal is the no of
abbrev pub refusal_number : Refusal → ℕ
refusal_number NotWellFormed = 1
refusal_number UnknownRow = 2
refusal_number NotAnswering = 3
refusal_number WrongRange = 4
refusal_number WrongSpace = 5
refusal_number NoQuorum = 6
refusal_number NotCurrent = 7
refusal_number AtLimit = 8
refusal_number StaleSource = 9
refusal_number NotWaiting = 10
refusal_number WrongNames = 11
refusal_number WrongSizes = 12
refusal_number NameTaken = 13
refusal_number TableFull = 14
refusal_number NotPlain = 15
refusal_number UnknownFile = 16
refusal_number NoChart = 17
refusal_number ClubSpent = 18
refusal_number ShareSpent = 19
refusal_number WrongCounty = 20

-- what is said of questions: the number of the first no, 0 where there is none
abbrev pub no_number : {A : Type 0} → Result A Refusal → ℕ
no_number (Ok x) = 0
no_number (Err r) = refusal_number r

-- the result of an answer
abbrev pub answer_number : Result ℕ Refusal → ℕ
answer_number (Ok value) = result_number 0 value
answer_number (Err r) = result_number (refusal_number r) 0
