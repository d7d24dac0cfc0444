-- The calls: the questions put to each, and its outcome, from the bytes before and the arguments.
use Rattle.std.specs.Prelude.{Bool, true, not, cond, ◌&&◌, ◌||◌, List, [], ◌∷◌, ◌++◌, ℕ, suc, ◌+◌, ◌-◌, ◌*◌, ◌%◌, ◌^◌, eqb, leb, ltb, length}
use Rattle.sets.specs.Upto.{every, some, count, lowest}
use Rattle.sets.specs.Sets.{has}
use Rattle.quorums.specs.declared.Kind.{Kind}
use Rattle.quorums.specs.declared.Kind.TheVariants.{Read, Write}
use Rattle.octets.specs.Bytes.{bytes_of, part, zeros}
use Rattle.fields.specs.declared.Laid.{Laid}
use Rattle.fields.specs.Layout.{is_tall, form_value, body_length, stride, in_copy, form_of, capacity_of, used_of, file_length_of, files_of, name_of, county_of, copy_bytes, stale_of, version_of, desired_of, contents_of, with_row, with_rows}
use Rattle.table.specs.Chain.{frame_of}
use Rattle.table.specs.WellFormed.{between, is_county, limit, only_rows, own_form, well_formed}
use Rattle.asking.specs.Asking.{Question, first_no, before, result_number}
use Rattle.sheet.specs.Sheet.{sheet_right, by_club, counted, cleared}
use Rattle.counties.specs.Counties.{county_at, list_choice}
use Rattle.counties.specs.Marks.{laid_now}
use Rattle.protocol.specs.Polls.{Poll, polled, highest_epoch, in_force, good_version, good, current, quorum_held, stays, worked_on}
use Rattle.protocol.specs.Rows.{refreshed_copy, wrote_copy, checked_row}
use Rattle.carrying.specs.Moves.{goes_over, all_plain, carried, carried_length}
use Rattle.joining.specs.Joining.{joined}

-- ---- the arguments of each call: "Coordinator c, answering set R (bit i − 1 for row i); c, f and t are row indexes."
pub record Founding : Type 0 where
  pub capacity : ℕ
  pub file_length : ℕ
  -- as bytes, two for each name
  pub names : List ℕ
  -- "Founding takes a choice, 0 for wide or 1 for tall"
  pub choice : ℕ
  -- "A tournament has up to eight files on the same machines"
  pub files : ℕ
  -- a byte each
  pub counties : List ℕ

pub record Reading : Type 0 where
  pub c : ℕ
  pub r : ℕ
  pub offset : ℕ
  pub count : ℕ
  -- lent, with whatever bytes it holds
  pub buffer : List ℕ
  -- lent for the size of the set called
  pub called : List ℕ
  -- "name a file, counted from 1"
  pub file : ℕ

pub record Writing : Type 0 where
  pub c : ℕ
  pub r : ℕ
  pub offset : ℕ
  pub patch : List ℕ
  pub called : List ℕ
  pub file : ℕ
  -- "A sheet, lent to writes .. and checks"
  pub sheet : List ℕ
  -- "A write .. names its club"
  pub club : ℕ

pub record Sending : Type 0 where
  -- from row f to row t
  pub f : ℕ
  pub t : ℕ
  pub r : ℕ
  pub file : ℕ

pub record Checking : Type 0 where
  pub c : ℕ
  pub r : ℕ
  pub sheet : List ℕ

pub record Joining : Type 0 where
  pub name : ℕ
  pub county : ℕ

pub record Carrying : Type 0 where
  -- the form to move to
  pub form : ℕ
  -- "The new table goes into a second lent buffer", with whatever bytes it holds
  pub dest : List ℕ

pub data Call : Type 0 where
  founding : Founding → Call
  join : Joining → Call
  read : Reading → Call
  write : Writing → Call
  send : Sending → Call
  check : Checking → Call
  carry : Carrying → Call

-- what a call leaves: refusal number (0: done), value, the table's bytes, the bytes of the read buffer or of a move's second one, those lent for the size of
-- the set called, and the sheet
pub record Outcome : Type 0 where
  pub refusal : ℕ
  pub value : ℕ
  pub table : List ℕ
  pub buffer : List ℕ
  pub called : List ℕ
  pub sheet : List ℕ

-- the buffer that a call is lent besides the table
unfoldable pub lent : Call → List ℕ
lent (founding a) = []
lent (join a) = []
lent (read a) = a.buffer
lent (write a) = []
lent (send a) = []
lent (check a) = []
lent (carry a) = a.dest

-- and the sheet
unfoldable pub lent_sheet : Call → List ℕ
lent_sheet (founding a) = []
lent_sheet (join a) = []
lent_sheet (read a) = []
lent_sheet (write a) = a.sheet
lent_sheet (send a) = []
lent_sheet (check a) = a.sheet
lent_sheet (carry a) = []

-- "A result is one 64-bit number: refusal number times 2^32, plus value."
unfoldable pub result_of : Outcome → ℕ
result_of o = result_number o.refusal o.value

-- i is a used row
unfoldable pub is_used : List ℕ → ℕ → Bool
is_used t i = between 1 i (used_of t)

-- "is the length at least 1 and offset + length at most L?"
unfoldable pub in_file : List ℕ → ℕ → ℕ → Bool
in_file t offset count = leb 1 count && leb (offset + count) (file_length_of t)

-- q is a file of the group
unfoldable pub in_group : List ℕ → ℕ → Bool
in_group t q = between 1 q (files_of t)

-- ---- the set S that a read or a write of file q works on, and the poll; epochs and lists are the same whatever the file
unfoldable pub answers : List ℕ → ℕ → ℕ → Poll
answers t q r = polled t q (has r)

unfoldable pub work_set : Kind → List ℕ → ℕ → ℕ → ℕ → ℕ → Bool
work_set kind t q c r = worked_on kind (frame_of t) (answers t q r) c (name_of t c) (has r)

-- ---- founding
-- names, two bytes each, low byte first
unfoldable pub names_in : List ℕ → List ℕ
names_in [] = []
names_in (x ∷ []) = []
names_in (x ∷ y ∷ l) = (x + 256 * y) ∷ names_in l

-- "strictly rising, none 0", from above a; a name is at most 65,535
unfoldable pub names_rising : ℕ → List ℕ → Bool
names_rising a [] = true
names_rising a (x ∷ l) = ltb a x && leb x 65_535 && names_rising x l

-- "16 bytes: form, capacity, rows used, first row, file length", the number of files; "the rest 0"
unfoldable pub founded_header : ℕ → ℕ → ℕ → ℕ → List ℕ
founded_header capacity n files file_length = form_value ∷ capacity ∷ n ∷ 1 ∷ (bytes_of 2 file_length ++ (bytes_of 1 files ++ zeros 9))

-- row i of n: its name, the next row (0 after the last), the list of all used rows, its county; "contents, versions, epochs, marks .. become 0", with a body of so many bytes
unfoldable pub founded_row : ℕ → Laid → ℕ → ℕ → ℕ → ℕ → List ℕ
founded_row n all body i x y =
    bytes_of 2 x ++ (cond (eqb i n) 0 (i + 1) ∷ (zeros 13 ++ (bytes_of 8 all.members ++ (bytes_of 1 all.mark ++ (0 ∷ y ∷ (zeros 5 ++ zeros body))))))

-- "It puts them in rows 1 upward": the rows from row i on
unfoldable pub founded_rows : ℕ → Laid → ℕ → (ℕ → ℕ) → ℕ → List ℕ → List ℕ
founded_rows n all body county i [] = []
founded_rows n all body county i (x ∷ l) = founded_row n all body i x (county i) ++ founded_rows n all body county (suc i) l

-- the list that a founding lays of n rows, by its choice and their counties
unfoldable pub founded_list : ℕ → List ℕ → ℕ → Laid
founded_list choice counties n = laid_now (eqb choice 1) (county_at counties) (2 ^ n - 1)

-- the table after a founding: "every unused row" becomes 0 too
unfoldable pub founded : ℕ → ℕ → ℕ → ℕ → List ℕ → List ℕ → List ℕ
founded choice capacity files file_length names counties =
    let n = length names in
    founded_header capacity n files file_length
    ++ (founded_rows n (founded_list choice counties n) (body_length files file_length) (county_at counties) 1 names ++ zeros ((capacity - n) * stride files file_length))

-- ---- "Questions put to each call": in this order, each to the calls it names
-- 1 to 3 of a call by coordinator c, then those after
unfoldable pub by_coordinator : List ℕ → ℕ → ℕ → List Question → List Question
by_coordinator t c r qs =
    record { ask = 1; yes = well_formed t }
    ∷ record { ask = 2; yes = is_used t c && only_rows (used_of t) r }
    ∷ record { ask = 3; yes = has r c }
    ∷ qs

unfoldable pub questions : List ℕ → Call → List Question
questions t (founding a) =
    let n = length (names_in a.names) in
    record { ask = 11; yes = eqb (length a.names % 2) 0 && between 1 n 64 && names_rising 0 (names_in a.names) && leb a.choice 1 }
    -- "byte 6 is the number of files, 1 to 8, else founding is refused by 12"
    ∷ record {
      ask = 12;
      yes = between 1 a.capacity 64 && leb n a.capacity && between 1 a.file_length 4_096 && between 1 a.files 8
          && eqb (length t) (16 + a.capacity * stride a.files a.file_length);
    }
    -- "after question 12 and after 14, a county outside 1 to 8, or counties (in C a byte each) not as many as the names, gives 20"
    ∷ record { ask = 20; yes = eqb (length a.counties) n && every n (λ i. is_county (county_at a.counties i)) }
    ∷ []
-- "Questions 2 and 3 are not put to it. .. after question 1, joining gives 13 for name 0 or a name in use, then 14 when no unused row is left."
questions t (join a) =
    record { ask = 1; yes = well_formed t }
    ∷ record { ask = 13; yes = between 1 a.name 65_535 && not (some (used_of t) (λ i. eqb (name_of t i) a.name)) }
    ∷ record { ask = 14; yes = ltb (used_of t) (capacity_of t) }
    ∷ record { ask = 20; yes = is_county a.county }
    ∷ []
-- "after question 3, a file number not in the group gives 16"
questions t (read a) =
    let p = answers t a.file a.r in
    let s = work_set Read t a.file a.c a.r in
    by_coordinator t a.c a.r (
    record { ask = 16; yes = in_group t a.file }
    ∷ record { ask = 4; yes = in_file t a.offset a.count }
    ∷ record { ask = 5; yes = eqb (length a.buffer) a.count && eqb (length a.called) 1 }
    ∷ record { ask = 6; yes = quorum_held Read (frame_of t) p s }
    ∷ record { ask = 7; yes = current p s }
    ∷ [])
-- "a sheet that breaks this is refused by 1": 1 is put to the sheet and to the table
questions t (write a) =
    let p = answers t a.file a.r in
    let s = work_set Write t a.file a.c a.r in
    record { ask = 1; yes = sheet_right a.sheet }
    ∷ by_coordinator t a.c a.r (
    record { ask = 16; yes = in_group t a.file }
    ∷ record { ask = 4; yes = in_file t a.offset (length a.patch) }
    ∷ record { ask = 5; yes = eqb (length a.called) 1 }
    ∷ record { ask = 6; yes = quorum_held Write (frame_of t) p s }
    ∷ record { ask = 7; yes = current p s }
    ∷ by_club a.sheet a.club (
    record { ask = 8; yes = ltb (good_version p s) limit }
    ∷ []))
questions t (send a) =
    record { ask = 1; yes = well_formed t }
    ∷ record { ask = 2; yes = is_used t a.f && is_used t a.t && only_rows (used_of t) a.r && not (eqb a.f a.t) }
    ∷ record { ask = 3; yes = has a.r a.f && has a.r a.t }
    ∷ record { ask = 16; yes = in_group t a.file }
    ∷ record { ask = 9; yes = not (stale_of t a.file a.f) }
    ∷ record { ask = 10; yes = stale_of t a.file a.t && leb (desired_of t a.file a.t) (version_of t a.file a.f) }
    ∷ []
-- epochs and lists, which every file shares, are read off file 1's poll; "A check is current only if S is current for every file."
questions t (check a) =
    let p = answers t 1 a.r in
    let same = eqb a.r (in_force p (has a.r)).members in
    record { ask = 1; yes = sheet_right a.sheet }
    ∷ by_coordinator t a.c a.r (
    record { ask = 6; yes = quorum_held Write (frame_of t) p (has a.r) }
    ∷ record { ask = 7; yes = same || every (files_of t) (λ q. current (answers t q a.r) (has a.r)) }
    ∷ record { ask = 8; yes = same || ltb (highest_epoch p (has a.r)) limit }
    ∷ [])
-- "question 1 judges a table by its own form .. after question 1, moving to form 1 gives 15 when ..; then a buffer of another length, or a pair of
-- forms other than 1 or 2 with 3, is refused by 12."
questions t (carry a) =
    record { ask = 1; yes = own_form t }
    ∷ record { ask = 15; yes = not (eqb a.form 1) || all_plain t }
    ∷ record { ask = 12; yes = goes_over (form_of t) a.form && eqb (length a.dest) (carried_length a.form t) }
    ∷ []

-- ---- "the size of the set called": it goes into a lent byte, "by refused calls too"
-- "the coordinator's own choice, or all used rows if it went on to R"
unfoldable pub called_by : Kind → List ℕ → ℕ → ℕ → ℕ → ℕ
called_by kind t q c r = let p = answers t q r in
    cond (stays kind (frame_of t) p c (name_of t c) (has r)) (count 64 (list_choice kind (frame_of t) (p.list c) (name_of t c))) (used_of t)

-- "In C it is a list of one byte; one of another length is left alone"
unfoldable pub noted : List ℕ → ℕ → List ℕ
noted bytes n = cond (eqb (length bytes) 1) (n ∷ []) bytes

-- "as 0 before question 6"
unfoldable pub from_six : List Question → ℕ → ℕ
from_six qs n = cond (eqb (first_no (before 6 qs)) 0) n 0

-- the bytes lent for it, after the call; only a read and a write are lent some
unfoldable pub called_after : List ℕ → Call → List ℕ
called_after t (founding a) = []
called_after t (join a) = []
called_after t (read a) = noted a.called (from_six (questions t (read a)) (called_by Read t a.file a.c a.r))
called_after t (write a) = noted a.called (from_six (questions t (write a)) (called_by Write t a.file a.c a.r))
called_after t (send a) = []
called_after t (check a) = []
called_after t (carry a) = []

-- ---- what a done call leaves
-- what a call on table t leaves that alters no more than the table, and notes the size of the set called: all else is as it was lent
abbrev pub leaves : List ℕ → Call → ℕ → ℕ → List ℕ → Outcome
leaves t k refusal value table = record { refusal = refusal; value = value; table = table; buffer = lent k; called = called_after t k; sheet = lent_sheet k }

-- the same with these bytes in the buffer
abbrev pub buffered : List ℕ → Outcome → Outcome
buffered bytes o = record { refusal = o.refusal; value = o.value; table = o.table; buffer = bytes; called = o.called; sheet = o.sheet }

-- the same with this sheet
abbrev pub counting : List ℕ → Outcome → Outcome
counting bytes o = record { refusal = o.refusal; value = o.value; table = o.table; buffer = o.buffer; called = o.called; sheet = bytes }

unfoldable pub done : List ℕ → Call → Outcome
done t (founding a) = leaves t (founding a) 0 (length (names_in a.names)) (founded a.choice a.capacity a.files a.file_length (names_in a.names) a.counties)
-- "its value is the new index"
done t (join a) = leaves t (join a) 0 (suc (used_of t)) (joined t a.name a.county)
-- "copies the range from the good row of lowest index. Value: its version."
done t (read a) =
    let p = answers t a.file a.r in
    let s = work_set Read t a.file a.c a.r in
    buffered (part a.offset a.count (contents_of t a.file (lowest 64 (good p s)))) (leaves t (read a) 0 (good_version p s) t)
-- "Value: the new version."; "a done one adds one there"
done t (write a) =
    let p = answers t a.file a.r in
    let s = work_set Write t a.file a.c a.r in
    let v = good_version p s + 1 in
    counting (counted a.sheet a.club)
    (leaves t (write a) 0 v (with_rows t s (λ i. in_copy (file_length_of t) a.file (wrote_copy (good p s) v a.offset a.patch i)) (used_of t)))
-- "Value: that version."
done t (send a) =
    leaves t (send a) 0 (version_of t a.file a.f)
    (with_row t a.t (in_copy (file_length_of t) a.file (refreshed_copy (copy_bytes t a.file a.f))))
-- "if R equals V, nothing changes. .. Value: the epoch number in force."; "a changing check sets all counts to 0"
done t (check a) =
    let p = answers t 1 a.r in
    let e = highest_epoch p (has a.r) in
    let same = eqb a.r (in_force p (has a.r)).members in
    let goods : ℕ → ℕ → Bool = λ q. good (answers t q a.r) (has a.r) in
    let versions : ℕ → ℕ = λ q. good_version (answers t q a.r) (has a.r) in
    counting (cond same a.sheet (cleared a.sheet))
    (leaves t (check a) 0 (cond same e (e + 1))
    (cond same t
    (with_rows t (has a.r) (checked_row (files_of t) (file_length_of t) goods versions (e + 1) (laid_now (is_tall (in_force p (has a.r))) (county_of t) a.r)) (used_of t))))
-- "the value is the rows used"
done t (carry a) = buffered (carried a.form t) (leaves t (carry a) 0 (used_of t) t)

-- "A refusal has value 0 and alters no byte of the table, of a read's buffer .."; the size of the set called is noted by a refused call too
unfoldable pub refused : List ℕ → Call → ℕ → Outcome
refused t k n = leaves t k n 0 t

unfoldable pub outcome : List ℕ → Call → Outcome
outcome t k = let n = first_no (questions t k) in cond (eqb n 0) (done t k) (refused t k n)
