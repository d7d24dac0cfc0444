-- Short histories that expose wrong readings: what each call gives, and heads and contents of some rows between calls. Those that alone refuse an edit; the
-- others are in `replays`.
use mathlib.Core.Bool.{Bool, true, false, ◌&&◌}
use mathlib.Core.List.{List, [], ◌∷◌}
use Prim.Native.Nat.{ℕ, ◌+◌, ◌*◌}
use lib.Dec.{eqb}
use lib.ListN.{take, replicate, length}
use Rattle.fields.specs.Layout.{stride, row_bytes, copy_bytes, contents_of}
use Rattle.sheet.specs.Shown.{club, sheet_of}
use Rattle.sheet.proofs.ShownLaws.{open_sheet}
use Rattle.protocol.specs.Calls.{Call, founding, join, read, write, send, check, carry, outcome}

-- ---- calls by their arguments, in the order of their fields
unfoldable pub fo : (capacity file_length : ℕ) (names : List ℕ) (choice files : ℕ) (counties : List ℕ) → Call
fo capacity file_length names choice files counties = founding (record { capacity = capacity; file_length = file_length; names = names; choice = choice; files = files; counties = counties })

unfoldable pub jn : (name county : ℕ) → Call
jn name county = join (record { name = name; county = county })

-- of a file; those without one are of file 1
unfoldable pub rdq : (q c r offset count : ℕ) (buffer called : List ℕ) → Call
rdq q c r offset count buffer called = read (record { c = c; r = r; offset = offset; count = count; buffer = buffer; called = called; file = q })

-- by a club, with its sheet; those without one are by club 1 and a sheet that lets it write
unfoldable pub wrs : (q c r offset : ℕ) (patch called sheet : List ℕ) (club : ℕ) → Call
wrs q c r offset patch called sheet club = write (record { c = c; r = r; offset = offset; patch = patch; called = called; file = q; sheet = sheet; club = club })

unfoldable pub wrq : (q c r offset : ℕ) (patch called : List ℕ) → Call
wrq q c r offset patch called = wrs q c r offset patch called open_sheet 1

unfoldable pub snq : (q f t r : ℕ) → Call
snq q f t r = send (record { f = f; t = t; r = r; file = q })

unfoldable pub rdc : (c r offset count : ℕ) (buffer called : List ℕ) → Call
rdc = rdq 1

unfoldable pub wrc : (c r offset : ℕ) (patch called : List ℕ) → Call
wrc = wrq 1

-- the same with one byte lent for the size of the set called
unfoldable pub rd : (c r offset count : ℕ) (buffer : List ℕ) → Call
rd c r offset count buffer = rdc c r offset count buffer (0 ∷ [])

unfoldable pub wr : (c r offset : ℕ) (patch : List ℕ) → Call
wr c r offset patch = wrc c r offset patch (0 ∷ [])

unfoldable pub sn : (f t r : ℕ) → Call
sn = snq 1

unfoldable pub cks : (c r : ℕ) (sheet : List ℕ) → Call
cks c r sheet = check (record { c = c; r = r; sheet = sheet })

unfoldable pub ck : (c r : ℕ) → Call
ck c r = cks c r open_sheet

unfoldable pub mv : (form : ℕ) (dest : List ℕ) → Call
mv form dest = carry (record { form = form; dest = dest })

pub data Step : Type 0 where
  -- a call is made: its refusal, value and buffer
  Made : Call → (refusal value : ℕ) (buffer : List ℕ) → Step
  -- a call is made: its refusal, and what it leaves in the bytes lent for the size of the set called
  Called : Call → (refusal : ℕ) (called : List ℕ) → Step
  -- a call is made: its refusal, and the sheet that it leaves
  Shares : Call → (refusal : ℕ) (sheet : List ℕ) → Step
  -- these are the first 32 bytes of row i
  Head : (i : ℕ) (bytes : List ℕ) → Step
  -- its copy of file q starts with these
  Copy : (q i : ℕ) (bytes : List ℕ) → Step
  -- and these its contents of file 1
  Contents : (i : ℕ) (bytes : List ℕ) → Step

pub record History : Type 0 where
  pub capacity : ℕ
  pub file_length : ℕ
  pub names : List ℕ
  pub choice : ℕ
  pub files : ℕ
  pub counties : List ℕ
  pub steps : List Step

unfoldable pub same : List ℕ → List ℕ → Bool
same [] [] = true
same [] (y ∷ ys) = false
same (x ∷ xs) [] = false
same (x ∷ xs) (y ∷ ys) = eqb x y && same xs ys

unfoldable pub steps_hold : List ℕ → List Step → Bool
steps_hold t [] = true
steps_hold t (Made k refusal value buffer ∷ ss) =
    let o = outcome t k in
    eqb o.refusal refusal && eqb o.value value && same o.buffer buffer && steps_hold o.table ss
steps_hold t (Called k refusal called ∷ ss) =
    let o = outcome t k in
    eqb o.refusal refusal && same o.called called && steps_hold o.table ss
steps_hold t (Shares k refusal sheet ∷ ss) =
    let o = outcome t k in
    eqb o.refusal refusal && same o.sheet sheet && steps_hold o.table ss
steps_hold t (Head i bytes ∷ ss) = same (take 32 (row_bytes t i)) bytes && steps_hold t ss
steps_hold t (Copy q i bytes ∷ ss) = same (take (length bytes) (copy_bytes t q i)) bytes && steps_hold t ss
steps_hold t (Contents i bytes ∷ ss) = same (contents_of t 1 i) bytes && steps_hold t ss

-- the founding is made on a table of ones, which leave no trace
unfoldable pub replays : History → Bool
replays h =
    let o = outcome (replicate (16 + h.capacity * stride h.files h.file_length) 1) (fo h.capacity h.file_length h.names h.choice h.files h.counties) in
    eqb o.refusal 0 && steps_hold o.table h.steps

unfoldable pub all_replay : List History → Bool
all_replay [] = true
all_replay (h ∷ hs) = replays h && all_replay hs

-- two clubs and their counts: one write is assured to the first, which may make two, and one is left for whoever comes
unfoldable pub fair_use : ℕ → ℕ → List ℕ
fair_use m n = sheet_of (club 1 2 m ∷ club 0 3 n ∷ []) 2

unfoldable pub histories : List History
histories =
    -- the own choice goes by the name: row 4 does not take the first write; a send wants the desired version too; a good send, and its value
    record {
      capacity = 4;
      file_length = 2;
      names = 10 ∷ 0 ∷ 20 ∷ 0 ∷ 30 ∷ 0 ∷ 40 ∷ 0 ∷ [];
      choice = 0;
      files = 1;
      counties = 1 ∷ 1 ∷ 1 ∷ 1 ∷ [];
      steps =
          Called (wr 1 15 0 (1 ∷ [])) 0 (3 ∷ []) ∷
          Copy 1 4 (0 ∷ 0 ∷ 0 ∷ 0 ∷ 0 ∷ 0 ∷ 0 ∷ 0 ∷ 0 ∷ 0 ∷ 0 ∷ 0 ∷ 0 ∷ 0 ∷ []) ∷
          Made (wr 1 11 1 (2 ∷ [])) 0 2 [] ∷
          Made (sn 3 4 12) 10 0 [] ∷
          Made (sn 1 4 9) 0 2 [] ∷
          Head 4 (40 ∷ 0 ∷ 0 ∷ 0 ∷ 0 ∷ 0 ∷ 0 ∷ 0 ∷ 0 ∷ 0 ∷ 0 ∷ 0 ∷ 0 ∷ 0 ∷ 0 ∷ 0 ∷ 15 ∷ 0 ∷ 0 ∷ 0 ∷ 0 ∷ 0 ∷ 0 ∷ 0 ∷ 0 ∷ 0 ∷ 1 ∷ 0 ∷ 0 ∷ 0 ∷ 0 ∷ 0 ∷ []) ∷
          Copy 1 4 (0 ∷ 1 ∷ 0 ∷ 0 ∷ 2 ∷ 0 ∷ 0 ∷ 0 ∷ 0 ∷ 0 ∷ 0 ∷ 0 ∷ 1 ∷ 2 ∷ []) ∷
          [];
    }
    -- two counties: both are wanted for a read; a row joins the second, and the list that it is checked into is one of two counties again
    ∷ record {
      capacity = 3;
      file_length = 1;
      names = 10 ∷ 0 ∷ 20 ∷ 0 ∷ [];
      choice = 0;
      files = 1;
      counties = 1 ∷ 7 ∷ [];
      steps =
          Head 2 (20 ∷ 0 ∷ 0 ∷ 0 ∷ 0 ∷ 0 ∷ 0 ∷ 0 ∷ 0 ∷ 0 ∷ 0 ∷ 0 ∷ 0 ∷ 0 ∷ 0 ∷ 0 ∷ 3 ∷ 0 ∷ 0 ∷ 0 ∷ 0 ∷ 0 ∷ 0 ∷ 0 ∷ 3 ∷ 0 ∷ 7 ∷ 0 ∷ 0 ∷ 0 ∷ 0 ∷ 0 ∷ []) ∷
          Made (rd 1 1 0 1 (9 ∷ [])) 6 0 (9 ∷ []) ∷
          Made (jn 15 7) 0 3 [] ∷
          Head 3 (15 ∷ 0 ∷ 2 ∷ 0 ∷ 0 ∷ 0 ∷ 0 ∷ 0 ∷ 0 ∷ 0 ∷ 0 ∷ 0 ∷ 0 ∷ 0 ∷ 0 ∷ 0 ∷ 0 ∷ 0 ∷ 0 ∷ 0 ∷ 0 ∷ 0 ∷ 0 ∷ 0 ∷ 0 ∷ 0 ∷ 7 ∷ 0 ∷ 0 ∷ 0 ∷ 0 ∷ 0 ∷ []) ∷
          Made (ck 1 7) 0 1 [] ∷
          Head 3 (15 ∷ 0 ∷ 2 ∷ 0 ∷ 0 ∷ 0 ∷ 0 ∷ 0 ∷ 0 ∷ 0 ∷ 0 ∷ 0 ∷ 1 ∷ 0 ∷ 0 ∷ 0 ∷ 7 ∷ 0 ∷ 0 ∷ 0 ∷ 0 ∷ 0 ∷ 0 ∷ 0 ∷ 3 ∷ 0 ∷ 7 ∷ 0 ∷ 0 ∷ 0 ∷ 0 ∷ 0 ∷ []) ∷
          [];
    }
    -- fair use: a done write is counted for its club; a refused check clears nothing, and so does one of the list in force
    ∷ record {
      capacity = 1;
      file_length = 1;
      names = 1 ∷ 0 ∷ [];
      choice = 0;
      files = 1;
      counties = 1 ∷ [];
      steps =
          Shares (wrs 1 1 1 0 (5 ∷ []) (0 ∷ []) (fair_use 0 0) 2) 0 (fair_use 0 1) ∷
          Shares (cks 1 1 (0 ∷ [])) 1 (0 ∷ []) ∷
          Shares (cks 1 1 (fair_use 1 1)) 0 (fair_use 1 1) ∷
          [];
    }
    ∷ []
