-- What is found of a set of rows in every file, in the code's words.
use Rattle.std.specs.Prelude.{◌≡◌, List, ℕ}
use Rattle.sets.specs.Upto.{Within, every}
use Rattle.sets.specs.Sets.{has}
use Rattle.fields.specs.Layout.{files_of}
use Rattle.protocol.specs.Polls.{good_version, good, current}
use Rattle.protocol.specs.Calls.{answers}
use Rattle.enroll.specs.Files.{by_file}
use Rattle.surveys.specs.declared.Survey.{Survey}

-- file by file the good rows of R and their version; is R current for every file
pub record Surveyed (t : List ℕ) (r : ℕ) (s : Survey) : Type 0 where
  pub goods : (q : ℕ) → Within (files_of t) q → has (by_file s.files q).good.bits ≡ good (answers t q r) (has r)
  pub versions : (q : ℕ) → Within (files_of t) q → (by_file s.files q).version ≡ good_version (answers t q r) (has r)
  pub current : s.current ≡ every (files_of t) (λ q. current (answers t q r) (has r))
