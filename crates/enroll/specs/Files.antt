-- An array has a place for each of the eight files: place q - 1 for file q.
use Rattle.std.specs.Prelude.{List, ℕ, ◌-◌, get_or}
use Rattle.enroll.specs.declared.FileState.{FileState}

unfoldable pub by_file : List FileState → ℕ → FileState
by_file xs q = get_or xs (q - 1) (record { good = record { bits = 0 }; version = 0 })
