-- What is claimed of every call, as statements; the proofs are in proofs/.
use Rattle.std.specs.Prelude.{◌≡◌, Bool, true, false, List, [], ◌∷◌, map, ℕ, suc, ◌-◌, ◌/◌, ◌%◌, ◌^◌, ◌<◌, leb, length, take, drop}
use Rattle.sets.specs.Upto.{Within}
use Rattle.sets.specs.Sets.{has, losing}
use Rattle.quorums.specs.declared.Kind.{Kind}
use Rattle.quorums.specs.declared.Kind.TheVariants.{Read, Write}
use Rattle.fields.specs.declared.Laid.{Laid}
use Rattle.fields.specs.Layout.{get, version, is_empty, used_of, name_of, link_of, county_of, rows_end, row_bytes, copy_bytes}
use Rattle.window.specs.Windows.{patches, window_of}
use Rattle.table.specs.Chain.{order_of, frame_of}
use Rattle.table.specs.WellFormed.{well_formed}
use Rattle.linking.specs.Linking.{inserted}
use Rattle.carrying.specs.Moves.{carried}
use Rattle.carrying.specs.Claims.{RightIn}
use Rattle.joining.specs.Claims.{OneMore}
use Rattle.asking.specs.Asking.{Question, first_no, before}
use Rattle.counties.specs.Levels.{seats}
use Rattle.counties.specs.Counties.{Frame, list_quorum, list_choice}
use Rattle.protocol.specs.Polls.{Poll, highest_epoch, in_force, quorum_held, worked_on}
use Rattle.protocol.specs.Rows.{refreshed_copy}
use Rattle.protocol.specs.Calls.{Founding, Reading, Writing, Sending, Checking, Joining, Call, founding, join, read, write, send, check, Carrying, carry, Outcome, result_of, questions, called_by, lent, lent_sheet, outcome}

-- "In this order, each to the calls it names (2 and 3 to all but founding)", joining and a move: the numbers of the questions put to a call
unfoldable pub numbers_put : Call → List ℕ
numbers_put (founding a) = 11 ∷ 12 ∷ 20 ∷ []
numbers_put (join a) = 1 ∷ 13 ∷ 14 ∷ 20 ∷ []
numbers_put (read a) = 1 ∷ 2 ∷ 3 ∷ 16 ∷ 4 ∷ 5 ∷ 6 ∷ 7 ∷ []
numbers_put (write a) = 1 ∷ 1 ∷ 2 ∷ 3 ∷ 16 ∷ 4 ∷ 5 ∷ 6 ∷ 7 ∷ 18 ∷ 19 ∷ 8 ∷ []
numbers_put (send a) = 1 ∷ 2 ∷ 3 ∷ 16 ∷ 9 ∷ 10 ∷ []
numbers_put (check a) = 1 ∷ 1 ∷ 2 ∷ 3 ∷ 6 ∷ 7 ∷ 8 ∷ []
numbers_put (carry a) = 1 ∷ 15 ∷ 12 ∷ []

unfoldable pub PutInOrder : Type 0
PutInOrder = (t : List ℕ) (k : Call) → map (λ (q : Question). q.ask) (questions t k) ≡ numbers_put k

-- the value leaves room for the refusal, so that both can be read off the result
pub record Told (o : Outcome) : Type 0 where
  pub small : o.value < 2 ^ 32
  pub refusal : result_of o / 2 ^ 32 ≡ o.refusal
  pub value : result_of o % 2 ^ 32 ≡ o.value

unfoldable pub ResultTells : Type 0
ResultTells = (t : List ℕ) (k : Call) → Told (outcome t k)

-- "A refusal leaves every byte of both unaltered"; "has value 0". The byte lent for the size of the set called is written "by refused calls too"
pub record Untouched (t : List ℕ) (k : Call) (o : Outcome) : Type 0 where
  pub value : o.value ≡ 0
  pub table : o.table ≡ t
  pub buffer : o.buffer ≡ lent k
  pub sheet : o.sheet ≡ lent_sheet k

unfoldable pub RefusalAltersNothing : Type 0
RefusalAltersNothing = (t : List ℕ) (k : Call) → ((outcome t k).refusal ≡ 0 → ⊥) → Untouched t k (outcome t k)

-- ".. alters no byte of .. a read's buffer": as it was lent
unfoldable pub BufferStays : Type 0
BufferStays = (t : List ℕ) (a : Reading) → ((outcome t (read a)).refusal ≡ 0 → ⊥) → (outcome t (read a)).buffer ≡ a.buffer

-- ---- "the size of the set called"
-- a read or a write of file q by c, with the answering set R and the bytes lent for the size of the set called
pub data Counting : Call → Kind → ℕ → ℕ → ℕ → List ℕ → Type 0 where
  of_read : {a : Reading} → Counting (read a) Read a.file a.c a.r a.called
  of_write : {a : Writing} → Counting (write a) Write a.file a.c a.r a.called

-- "It goes into a lent byte of its own, by refused calls too, as 0 before question 6": 0 by 1 to 5 and by 16; by 6 and 7, having gone on to R, all used rows; by 18, 19 and 8 what was called
pub record NotedRefused (t : List ℕ) (kind : Kind) (q c r : ℕ) (o : Outcome) : Type 0 where
  pub early : Within 5 o.refusal → o.called ≡ 0 ∷ []
  pub no-file : o.refusal ≡ 16 → o.called ≡ 0 ∷ []
  pub six : o.refusal ≡ 6 → o.called ≡ used_of t ∷ []
  pub seven : o.refusal ≡ 7 → o.called ≡ used_of t ∷ []
  pub eighteen : o.refusal ≡ 18 → o.called ≡ called_by kind t q c r ∷ []
  pub nineteen : o.refusal ≡ 19 → o.called ≡ called_by kind t q c r ∷ []
  pub eight : o.refusal ≡ 8 → o.called ≡ called_by kind t q c r ∷ []

unfoldable pub RefusedNote : Type 0
RefusedNote = (t : List ℕ) (k : Call) (kind : Kind) (q c r : ℕ) (bytes : List ℕ) → Counting k kind q c r bytes → length bytes ≡ 1 → NotedRefused t kind q c r (outcome t k)

-- "In C it is a list of one byte; one of another length is left alone and refused by 5, a write's too": by 5 where nothing is refused before
unfoldable pub OtherLengthsStay : Type 0
OtherLengthsStay = (t : List ℕ) (k : Call) (kind : Kind) (q c r : ℕ) (bytes : List ℕ) → Counting k kind q c r bytes → (length bytes ≡ 1 → ⊥)
    → ((outcome t k).called ≡ bytes) × (first_no (before 5 (questions t k)) ≡ 0 → (outcome t k).refusal ≡ 5)

-- "with each single read and write": every other call is lent no byte for it, and leaves none
pub record NoneNoted (t : List ℕ) : Type 0 where
  pub by-founding : (a : Founding) → (outcome t (founding a)).called ≡ []
  pub by-join : (a : Joining) → (outcome t (join a)).called ≡ []
  pub by-send : (a : Sending) → (outcome t (send a)).called ≡ []
  pub by-check : (a : Checking) → (outcome t (check a)).called ≡ []
  pub by-carry : (a : Carrying) → (outcome t (carry a)).called ≡ []

unfoldable pub OthersNoteNone : Type 0
OthersNoteNone = (t : List ℕ) → NoneNoted t

-- "Founding: value is the rows used."
unfoldable pub FoundingCounts : Type 0
FoundingCounts = (t : List ℕ) (a : Founding) → (outcome t (founding a)).refusal ≡ 0 → (outcome t (founding a)).value ≡ used_of (outcome t (founding a)).table

-- the call has an answering set R: every call but founding and joining
pub data Answering : Call → ℕ → Type 0 where
  by_read : {a : Reading} → Answering (read a) a.r
  by_write : {a : Writing} → Answering (write a) a.r
  by_send : {a : Sending} → Answering (send a) a.r
  by_check : {a : Checking} → Answering (check a) a.r

-- u is t but for rows of R: header, other used rows, and all that stands behind the used rows
pub record OnlyRowsOf (r : ℕ) (t u : List ℕ) : Type 0 where
  pub bytes : length u ≡ length t
  pub header : take 16 u ≡ take 16 t
  pub rows : (i : ℕ) → Within (used_of t) i → has r i ≡ false → row_bytes u i ≡ row_bytes t i
  pub rest : drop (rows_end t (used_of t)) u ≡ drop (rows_end t (used_of t)) t

-- "A done call, founding aside" and joining, "alters only rows of machines that answered."
unfoldable pub AltersOnlyAnswered : Type 0
AltersOnlyAnswered = (t : List ℕ) (k : Call) (r : ℕ) → Answering k r → (outcome t k).refusal ≡ 0 → OnlyRowsOf r t (outcome t k).table

-- "Two well-formed tables with equal headers, names and links, and equal rows in R"; "counties count with names and links"
pub record EqualIn (r : ℕ) (t u : List ℕ) : Type 0 where
  pub formed : well_formed t ≡ true
  pub formed-too : well_formed u ≡ true
  pub header : take 16 t ≡ take 16 u
  pub names : (i : ℕ) → Within (used_of t) i → name_of t i ≡ name_of u i
  pub links : (i : ℕ) → Within (used_of t) i → link_of t i ≡ link_of u i
  pub counties : (i : ℕ) → Within (used_of t) i → county_of t i ≡ county_of u i
  pub rows : (i : ℕ) → has r i ≡ true → row_bytes t i ≡ row_bytes u i

-- ".. give the same call the same result, the same read bytes and the same rows in R."
pub record SameFor (r : ℕ) (o p : Outcome) : Type 0 where
  pub refusal : o.refusal ≡ p.refusal
  pub value : o.value ≡ p.value
  pub buffer : o.buffer ≡ p.buffer
  pub called : o.called ≡ p.called
  pub sheet : o.sheet ≡ p.sheet
  pub rows : (i : ℕ) → has r i ≡ true → row_bytes o.table i ≡ row_bytes p.table i

unfoldable pub UnansweredHaveNoPart : Type 0
UnansweredHaveNoPart = (t u : List ℕ) (k : Call) (r : ℕ) → Answering k r → EqualIn r t u → SameFor r (outcome t k) (outcome u k)

-- "A check on a well-formed table that no founding leads to may leave one that question 1 turns down"; no other call may
pub data NoCheck : Call → Type 0 where
  a_founding : {a : Founding} → NoCheck (founding a)
  a_join : {a : Joining} → NoCheck (join a)
  a_read : {a : Reading} → NoCheck (read a)
  a_write : {a : Writing} → NoCheck (write a)
  a_send : {a : Sending} → NoCheck (send a)
  a_carry : {a : Carrying} → NoCheck (carry a)

unfoldable pub StaysWellFormed : Type 0
StaysWellFormed = (t : List ℕ) (k : Call) → NoCheck k → well_formed t ≡ true → well_formed (outcome t k).table ≡ true

-- ---- a row with an empty list
-- it "is passed over in finding the highest epoch", whatever its own epoch says: of any poll, S without it has the same highest epoch and V
unfoldable pub EmptyPassedOver : Type 0
EmptyPassedOver = (p : Poll) (s : ℕ → Bool) (i : ℕ) → is_empty (p.list i) ≡ true
    → (highest_epoch p (losing s i) ≡ highest_epoch p s) × (in_force p (losing s i) ≡ in_force p s)

-- it "has no choice, so its calls work on R"
unfoldable pub EmptyWorksOnR : Type 0
EmptyWorksOnR = (kind : Kind) (f : Frame) (p : Poll) (c a : ℕ) (r : ℕ → Bool) → is_empty (p.list c) ≡ true → worked_on kind f p c a r ≡ r

-- "If S has only such rows, question 6 is answered no."
unfoldable pub OnlyEmptyRefused : Type 0
OnlyEmptyRefused = (kind : Kind) (f : Frame) (p : Poll) (s : ℕ → Bool) → ((i : ℕ) → s i ≡ true → is_empty (p.list i) ≡ true) → quorum_held kind f p s ≡ false

-- ---- joining
-- what a done joining alters, byte for byte
unfoldable pub JoinAlters : Type 0
JoinAlters = (t : List ℕ) (a : Joining) → (outcome t (join a)).refusal ≡ 0 → OneMore t (outcome t (join a)).table a.name a.county

-- "is linked in name order": the chain is the old one with the new row before the next higher name; and so every list of rows that were used before
-- keeps its positions, quorums and choices
pub record KeepsLists (t u : List ℕ) (x : ℕ) : Type 0 where
  pub order : order_of u ≡ inserted (name_of t) x (suc (used_of t)) (order_of t)
  pub positions : (l : Laid) → l.members < 2 ^ used_of t → seats (order_of u) (has l.members) ≡ seats (order_of t) (has l.members)
  pub quorums : (l : Laid) → l.members < 2 ^ used_of t → (kind : Kind) (s : ℕ → Bool) → list_quorum kind (frame_of u) l s ≡ list_quorum kind (frame_of t) l s
  pub choices : (l : Laid) → l.members < 2 ^ used_of t → (kind : Kind) (a i : ℕ) → list_choice kind (frame_of u) l a i ≡ list_choice kind (frame_of t) l a i

unfoldable pub JoinKeepsLists : Type 0
JoinKeepsLists = (t : List ℕ) (a : Joining) → (outcome t (join a)).refusal ≡ 0 → KeepsLists t (outcome t (join a)).table a.name

-- a joining sees header, names, links and counties alone: two well-formed tables that are equal in these give it the same result, header, links,
-- counties and new row
pub record JoinsAlike (t : List ℕ) (o p : Outcome) : Type 0 where
  pub refusal : o.refusal ≡ p.refusal
  pub value : o.value ≡ p.value
  pub header : take 16 o.table ≡ take 16 p.table
  pub names : (i : ℕ) → Within (used_of o.table) i → name_of o.table i ≡ name_of p.table i
  pub links : (i : ℕ) → Within (used_of o.table) i → link_of o.table i ≡ link_of p.table i
  pub counties : (i : ℕ) → Within (used_of o.table) i → county_of o.table i ≡ county_of p.table i
  pub new : o.refusal ≡ 0 → row_bytes o.table (suc (used_of t)) ≡ row_bytes p.table (suc (used_of t))

unfoldable pub JoinSees : Type 0
JoinSees = (t u : List ℕ) (a : Joining) → EqualIn 0 t u → JoinsAlike t (outcome t (join a)) (outcome u (join a))

-- a founding's outcome does not hang on what lay in the table
unfoldable pub FoundsOnAnything : Type 0
FoundsOnAnything = (t u : List ℕ) (a : Founding) → length t ≡ length u → (outcome t (founding a)).refusal ≡ 0 → outcome t (founding a) ≡ outcome u (founding a)

-- ---- sends
-- "lays only the missing patches where the sender's window reaches back": then the sender's contents have no part in the copy that the target comes to have
unfoldable pub SendsByWindow : Type 0
SendsByWindow = (source other copy : List ℕ) → get version source ≡ get version other → window_of source ≡ window_of other
    → leb (get version source - get version copy) (length (patches (window_of source))) ≡ true → refreshed_copy source copy ≡ refreshed_copy other copy

-- ---- several files
-- k names file q
pub data OfFile : Call → ℕ → Type 0 where
  reads_file : {a : Reading} → OfFile (read a) a.file
  writes_file : {a : Writing} → OfFile (write a) a.file
  sends_file : {a : Sending} → OfFile (send a) a.file

-- "A write leaves other files' parts byte for byte", and so does a send: no head changes, and no copy of another file
pub record OtherFiles (q : ℕ) (t u : List ℕ) : Type 0 where
  pub heads : (i : ℕ) → Within (used_of t) i → take 32 (row_bytes u i) ≡ take 32 (row_bytes t i)
  pub copies : (i p : ℕ) → Within (used_of t) i → (p ≡ q → ⊥) → copy_bytes u p i ≡ copy_bytes t p i

unfoldable pub OtherFilesStay : Type 0
OtherFilesStay = (t : List ℕ) (k : Call) (q : ℕ) → OfFile k q → OtherFiles q t (outcome t k).table

-- "two well-formed groups that differ only within other files"
pub record EqualInFile (q : ℕ) (t u : List ℕ) : Type 0 where
  pub formed : well_formed t ≡ true
  pub formed-too : well_formed u ≡ true
  pub header : take 16 t ≡ take 16 u
  pub heads : (i : ℕ) → Within (used_of t) i → take 32 (row_bytes t i) ≡ take 32 (row_bytes u i)
  pub copies : (i : ℕ) → Within (used_of t) i → copy_bytes t q i ≡ copy_bytes u q i

-- "a read, write or send answers the same", and leaves the same copies of its file
pub record SameInFile (q : ℕ) (t : List ℕ) (o p : Outcome) : Type 0 where
  pub refusal : o.refusal ≡ p.refusal
  pub value : o.value ≡ p.value
  pub buffer : o.buffer ≡ p.buffer
  pub called : o.called ≡ p.called
  pub sheet : o.sheet ≡ p.sheet
  pub copies : (i : ℕ) → Within (used_of t) i → copy_bytes o.table q i ≡ copy_bytes p.table q i

unfoldable pub OtherFilesHaveNoPart : Type 0
OtherFilesHaveNoPart = (t u : List ℕ) (k : Call) (q : ℕ) → OfFile k q → EqualInFile q t u → SameInFile q t (outcome t k) (outcome u k)

-- ---- moves
-- a done move leaves the table as it is, and in the second buffer the table carried over, right by the form asked for
pub record MovedOver (t : List ℕ) (a : Carrying) (o : Outcome) : Type 0 where
  pub table : o.table ≡ t
  pub value : o.value ≡ used_of t
  pub buffer : o.buffer ≡ carried a.form t
  pub right : RightIn a.form t o.buffer

unfoldable pub MovesOver : Type 0
MovesOver = (t : List ℕ) (a : Carrying) → (outcome t (carry a)).refusal ≡ 0 → MovedOver t a (outcome t (carry a))
