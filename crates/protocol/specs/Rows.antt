-- Copies and rows after a call: which fields change.
use Rattle.std.specs.Prelude.{Bool, not, cond, List, ℕ, ◌-◌}
use Rattle.fields.specs.declared.Laid.{Laid}
use Rattle.fields.specs.Layout.{get, store, mark, version, desired, epoch, store_list, contents, store_contents, in_copies}
use Rattle.window.specs.Windows.{window_of, store_window, added, sent}

-- "is marked and desires the new version"
unfoldable pub marked_copy : ℕ → List ℕ → List ℕ
marked_copy v copy = store desired v (store mark 1 copy)

-- "a patch touches only the named bytes of that row's contents .. whose version grows by one"; "A write adds its patch to every good row's window."
unfoldable pub patched_copy : ℕ → ℕ → List ℕ → List ℕ → List ℕ
patched_copy v offset patch copy =
    store_window (added (record { offset = offset; bytes = patch }) (window_of copy)) (store_contents offset patch (store version v copy))

-- "in each good row ..; every other row of S is marked and desires the new version": row i's copy of the file that a write names
unfoldable pub wrote_copy : (ℕ → Bool) → ℕ → ℕ → List ℕ → ℕ → List ℕ → List ℕ
wrote_copy good v offset patch i copy = cond (good i) (patched_copy v offset patch copy) (marked_copy v copy)

-- "A send lays only the missing patches where the sender's window reaches back to the target's version, else the whole contents": the contents that
-- the target comes to have
unfoldable pub sent_contents : List ℕ → List ℕ → List ℕ
sent_contents source copy = sent (get version source - get version copy) (window_of source) (contents source) (contents copy)

-- "t takes f's contents and version; mark and desired become 0"; "and the target takes over the sender's window": t's copy, by that of f
unfoldable pub refreshed_copy : List ℕ → List ℕ → List ℕ
refreshed_copy source copy =
    store_window (window_of source) (store_contents 0 (sent_contents source copy) (store desired 0 (store version (get version source) (store mark 0 copy))))

-- "gets list R and V's epoch number plus one", and the mark of the grid in which R is laid
unfoldable pub enrolled_row : ℕ → Laid → List ℕ → List ℕ
enrolled_row e l row = store_list l (store epoch e row)

-- "every row of R gets list R and V's epoch number plus one; rows not good are marked and desire the good version": in each file the rows not good in
-- it, with that file's good version
unfoldable pub checked_row : ℕ → ℕ → (ℕ → ℕ → Bool) → (ℕ → ℕ) → ℕ → Laid → ℕ → List ℕ → List ℕ
checked_row files file_length good v e l i row = enrolled_row e l (in_copies files file_length (λ q. not (good q i)) (λ q. marked_copy (v q)) row)
