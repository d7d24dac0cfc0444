-- A refusal told in one sentence; call, name and number read off it again; the call that tells it.
use Rattle.std.specs.Prelude.{Bool, cond, ◌&&◌, ◌||◌, List, [], ◌∷◌, ◌++◌, ℕ, eqb, leb, length, get_or}
use Prim.Native.String.{String}
use Rattle.octets.specs.Bytes.{part}
use Rattle.asking.specs.Asking.{Question, first_no}
use Rattle.telling.specs.Text.{in_bytes, decimal, shown, padded}

-- "Calls are numbered from 1 in docs/": the words of calls 1 to 10, behind an empty one for 0
unfoldable pub words : List String
words =
    ""
    ∷ "founding"
    ∷ "read"
    ∷ "write"
    ∷ "send"
    ∷ "check"
    ∷ "joining"
    ∷ "round"
    ∷ "move"
    ∷ "chart"
    ∷ "notice"
    ∷ []

unfoldable pub word : ℕ → String
word call = get_or words call ""

-- "all but read, write, check and round show name 0, even if another is given"
unfoldable pub shows_name : ℕ → Bool
shows_name call = eqb call 2 || eqb call 3 || eqb call 5 || eqb call 7

unfoldable pub shown_name : ℕ → ℕ → ℕ
shown_name call name = cond (shows_name call) name 0

-- "a number with no refusal behind it gets a sentence that .. says so"
unfoldable pub no_reason : String
no_reason = ": no refusal has this number; 0 stands for a call that was done."

-- "the refused number's own reason": those of 1 to 20, behind the one for 0. Each is true of every call that the number can refuse, and says what to do next
-- where there is room
unfoldable pub reasons : List String
reasons =
    no_reason
    ∷ " refused: the tournament table, or the sheet of the clubs' writes, is not in order; hand in a good copy."
    ∷ " refused: it names a machine that is not in the table, or sends from a machine to itself; name another."
    ∷ " refused: the machine in charge, or one of the two of a send, did not answer; switch it on and try again."
    ∷ " refused: it is empty or goes beyond the file, has a wrong or a 65th order, or names no known call."
    ∷ " refused: the space lent for its answer has a wrong length; whoever keeps the program must put it right."
    ∷ " refused: too few machines answered, or not the right ones; switch on more of them and try again."
    ∷ " refused: no machine that answered is known to have all the latest results; wait for one that has them."
    ∷ " refused: the count of writes, or of new lists of machines, has reached 1,000,000; start a new table."
    ∷ " refused: the machine that should send is itself behind and waits for results; send from another one."
    ∷ " refused: the receiver waits for no results, or for newer ones than the sender has: then send from another."
    ∷ " refused: it takes 1 to 64 machine names, each above the one before, none 0; and 0 for wide or 1 for tall."
    ∷ " refused: the room for machines, the files, their length, the two forms or the space lent do not fit."
    ∷ " refused: the new machine's name is 0, or another machine has it; give it a name of its own."
    ∷ " refused: the table has no free place left for another machine; start a larger table."
    ∷ " refused: form 1 knows no machine without a list and no list laid in a newer grid; keep the newer form."
    ∷ " refused: the tournament has no file of that number; its files are numbered from 1."
    ∷ " refused: a chart is for 1 to 9 machines, in a grid that so many can have; grid mark 0 fits all of them."
    ∷ " refused: the club has made all its writes until the counts start anew, or is none of the clubs 1 to 16."
    ∷ " refused: the club's own writes and those the clubs share are used up; wait until the counts start anew."
    ∷ " refused: a county is not one of 1 to 8, or there are not as many counties as names; give each name one."
    ∷ []

unfoldable pub reason : ℕ → String
reason number = get_or reasons number no_reason

-- how a sentence begins: its figures at places of their own
unfoldable pub heading : ℕ → ℕ → ℕ → List ℕ
heading call name number = in_bytes "Call " ++ decimal 2 call ++ in_bytes " by machine " ++ decimal 5 name ++ in_bytes ", number " ++ decimal 10 number ++ in_bytes ": "

-- "one sentence for each refusal, with its figures: the call, the coordinator's name and the refused number's own reason"
unfoldable pub sentence : ℕ → ℕ → ℕ → List ℕ
sentence call name number = heading call (shown_name call name) number ++ (in_bytes (word call) ++ in_bytes (reason number))

-- "Call, name and number can be read off the sentence again"
pub record Figures : Type 0 where
  pub call : ℕ
  pub name : ℕ
  pub number : ℕ

unfoldable pub figures_in : List ℕ → Figures
figures_in s = record { call = shown 0 (part 5 2 s); name = shown 0 (part 19 5 s); number = shown 0 (part 33 10 s) }

-- ---- the call: a call's number, a name, a refusal number and a lent buffer
-- not "a call not in these papers"
unfoldable pub in_papers : ℕ → Bool
in_papers call = leb 1 call && leb call 10

-- "A call not in these papers is refused by 4, then a buffer of another length by 5"
unfoldable pub notice_questions : ℕ → List ℕ → List Question
notice_questions call buffer =
    record { ask = 4; yes = in_papers call }
    ∷ record { ask = 5; yes = eqb (length buffer) 160 }
    ∷ []

-- what the call leaves: refusal number (0: done), value, the buffer's bytes
pub record Noticed : Type 0 where
  pub refusal : ℕ
  pub value : ℕ
  pub buffer : List ℕ

-- "It goes into a lent buffer of 160 bytes, the rest spaces. .. The value is the sentence's length."; a refusal has value 0 and leaves the buffer as it was lent
unfoldable pub noticed : ℕ → ℕ → ℕ → List ℕ → Noticed
noticed call name number buffer =
    let n = first_no (notice_questions call buffer) in
    let s = sentence call name number in
    cond (eqb n 0) (record { refusal = 0; value = length s; buffer = padded 160 s }) (record { refusal = n; value = 0; buffer = buffer })
