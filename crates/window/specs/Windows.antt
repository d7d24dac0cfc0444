-- "Each row keeps a window on its latest 16 patches of at most 32 bytes."
use Rattle.std.specs.Prelude.{Bool, true, cond, ◌&&◌, List, [], ◌∷◌, ◌++◌, map, ℕ, ◌+◌, ◌-◌, ◌*◌, eqb, leb, length, drop}
use Rattle.sets.specs.Upto.{every, lowest, among}
use Rattle.octets.specs.Bytes.{bytes_of, part, put, zeros, all_zero}
use Rattle.blocks.specs.Blocks.{block, with_block}
use Rattle.fields.specs.Layout.{Field, get, store, oldest, oldest_in, records, store_records}
use Rattle.linking.specs.Linking.{chain, last_of}

-- "16 records of 36 bytes"
unfoldable pub places : ℕ
places = 16

unfoldable pub width : ℕ
width = 36

-- "oldest record's index, 0 for none", and the bytes of the records
pub record Window : Type 0 where
  pub oldest : ℕ
  pub records : List ℕ

-- bytes that were laid over the contents
pub record Patch : Type 0 where
  pub offset : ℕ
  pub bytes : List ℕ

-- ---- a record: "next younger record's index, length, offset (2 bytes), patch bytes, zeros"
unfoldable pub younger : Field
younger = record { place = 0; width = 1 }

unfoldable pub size : Field
size = record { place = 1; width = 1 }

unfoldable pub start : Field
start = record { place = 2; width = 2 }

unfoldable pub patch_in : List ℕ → Patch
patch_in r = record { offset = get start r; bytes = part 4 (get size r) r }

-- the record of a patch that no younger one follows
unfoldable pub record_with : Patch → List ℕ
record_with p = bytes_of 1 0 ++ (bytes_of 1 (length p.bytes) ++ (bytes_of 2 p.offset ++ (p.bytes ++ zeros (32 - length p.bytes))))

-- ---- the records of a window
unfoldable pub record_of : Window → ℕ → List ℕ
record_of w x = block 0 width x w.records

unfoldable pub next : Window → ℕ → ℕ
next w x = get younger (record_of w x)

-- the records in use, oldest first, one step more than there are records; "a next index of 0 ends the chain"
unfoldable pub path : Window → List ℕ
path w = chain (next w) 17 w.oldest

-- the patches of a window, oldest first
unfoldable pub patches : Window → List Patch
patches w = map (λ (x : ℕ). patch_in (record_of w x)) (path w)

-- ---- what question 1 asks of a window
-- "each patch has 1 to 32 bytes within L"; "patch bytes, zeros"
unfoldable pub record_right : ℕ → List ℕ → Bool
record_right file r = leb 1 (get size r) && (leb (get size r) 32 && (leb (get start r + get size r) file && all_zero (drop (4 + get size r) r)))

-- "the chain visits records 1 to k once each, k is at most the version, the rest are zero, and each patch has 1 to 32 bytes within L"
unfoldable pub window_right : ℕ → ℕ → Window → Bool
window_right file version w =
    let k = length (path w) in
    leb k places && (every k (among (path w)) && (leb k version && (all_zero (drop (k * width) w.records) && every k (λ x. record_right file (record_of w x)))))

-- ---- a window after a write
unfoldable pub emptied : Window
emptied = record { oldest = 0; records = zeros (places * width) }

-- "A patch takes the lowest all-zero record, else the oldest one's."
unfoldable pub free : Window → ℕ
free w = lowest places (λ x. all_zero (record_of w x))

unfoldable pub taken : Window → ℕ
taken w = cond (eqb (free w) 0) w.oldest (free w)

-- the oldest record that is left: that one's next where the oldest one's is taken
unfoldable pub left : Window → ℕ
left w = cond (eqb (free w) 0) (next w w.oldest) w.oldest

-- the youngest record, 0 for none
unfoldable pub youngest : Window → ℕ
youngest w = last_of (λ x. true) 0 (path w)

-- the window with a patch more; "A longer patch empties the window to zeros."
unfoldable pub added : Patch → Window → Window
added p w = cond (leb (length p.bytes) 32)
    (record {
      oldest = cond (eqb (left w) 0) (taken w) (left w);
      records = with_block 0 width (taken w) (λ r. record_with p) (with_block 0 width (youngest w) (store younger (taken w)) w.records);
    })
    emptied

-- ---- the window of a copy
unfoldable pub window_of : List ℕ → Window
window_of copy = record { oldest = get oldest copy; records = records copy }

unfoldable pub store_window : Window → List ℕ → List ℕ
store_window w copy = store_records w.records (store oldest w.oldest copy)

-- in a table of this form
unfoldable pub window_in : ℕ → List ℕ → Window
window_in f copy = record { oldest = get (oldest_in f) copy; records = records copy }

-- what a copy keeps of its file: the contents, and the window on their latest patches
pub record Kept : Type 0 where
  pub contents : List ℕ
  pub window : Window

-- "A write adds its patch to every good row's window": what the copy keeps after a patch
unfoldable pub patched : Patch → Kept → Kept
patched p k = record { contents = put p.offset p.bytes k.contents; window = added p k.window }

-- ---- what a send lays
-- contents with patches laid over them, one after another
unfoldable pub laid : List Patch → List ℕ → List ℕ
laid [] c = c
laid (p ∷ ps) c = laid ps (put p.offset p.bytes c)

-- the last n
unfoldable pub lastly : ℕ → List Patch → List Patch
lastly n ps = drop (length ps - n) ps

-- "A send lays only the missing patches where the sender's window reaches back to the target's version, else the whole contents": by the sender's
-- window and contents, over the target's own
unfoldable pub sent : ℕ → Window → List ℕ → List ℕ → List ℕ
sent missing w whole own = cond (leb missing (length (patches w))) (laid (lastly missing (patches w)) own) whole
