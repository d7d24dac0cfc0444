-- The questions that a read and a write are asked before the poll.
use Rattle.std.specs.Prelude.{◌≡◌, Bool, true, ◌&&◌, List, [], ◌∷◌, ℕ, eqb, length}
use Rattle.quorums.specs.declared.Kind.{Kind}
use Rattle.quorums.specs.declared.Kind.TheVariants.{Read, Write}
use Rattle.asking.specs.Asking.{Question}
use Rattle.sheet.specs.Sheet.{sheet_right}
use Rattle.protocol.specs.Calls.{Reading, Writing, Call, read, write, by_coordinator, in_group, in_file}

-- 1 to 3, 16, 4
unfoldable pub to_range : List ℕ → ℕ → ℕ → ℕ → ℕ → ℕ → List Question
to_range t q c r offset count = by_coordinator t c r (record { ask = 16; yes = in_group t q } ∷ record { ask = 4; yes = in_file t offset count } ∷ [])

-- a read, or a write with a right sheet, of file q by c over r: its range, the bytes lent for the size of the set called, and the answer to its question 5
pub data Ranged : Call → Kind → ℕ → ℕ → ℕ → ℕ → ℕ → List ℕ → Bool → Type 0 where
  a_read : {a : Reading}
      → Ranged (read a) Read a.file a.c a.r a.offset a.count a.called (eqb (length a.buffer) a.count && eqb (length a.called) 1)
  a_write : {a : Writing} → sheet_right a.sheet ≡ true → Ranged (write a) Write a.file a.c a.r a.offset (length a.patch) a.called (eqb (length a.called) 1)
