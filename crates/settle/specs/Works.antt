-- What is found of the set that a call works on.
use Rattle.std.specs.Prelude.{◌≡◌, cond, List, ℕ}
use Rattle.sets.specs.Sets.{has}
use Rattle.rows.specs.declared.RowSet.{RowSet}
use Rattle.quorums.specs.declared.Kind.{Kind}
use Rattle.fields.specs.Layout.{name_of, list_of}
use Rattle.table.specs.Chain.{frame_of}
use Rattle.counties.specs.Counties.{list_choice}
use Rattle.protocol.specs.Polls.{good_version, good, current, quorum_held}
use Rattle.protocol.specs.Calls.{answers, work_set, called_by}
use Rattle.asking.specs.Refusals.{no_number}
use Rattle.verdicts.specs.declared.Verdict.{Verdict}
use Rattle.settle.specs.declared.Settled.{Settled}

-- a set with what was found of it, and how many machines were called
pub record On (set : RowSet) (v : Verdict) (n : ℕ) (s : Settled) : Type 0 where
  pub rows : s.rows ≡ set
  pub good : s.good ≡ v.tally.good
  pub version : s.version ≡ v.tally.version
  pub called : s.called ≡ n

-- of file q: the set, the first no among 6 and 7 (0: none), the good rows, their version, and how many machines were called
pub record Works (kind : Kind) (t : List ℕ) (q c r : ℕ) (s : Settled) : Type 0 where
  pub rows : has s.rows.bits ≡ work_set kind t q c r
  pub refusal : no_number s.asked ≡ cond (quorum_held kind (frame_of t) (answers t q r) (work_set kind t q c r)) (cond (current (answers t q r) (work_set kind t q c r)) 0 7) 6
  pub good : has s.good.bits ≡ good (answers t q r) (work_set kind t q c r)
  pub version : s.version ≡ good_version (answers t q r) (work_set kind t q c r)
  pub called : s.called ≡ called_by kind t q c r

-- x, where it has a row, is the coordinator's own choice over its own list
pub record Known (kind : Kind) (t : List ℕ) (c x : ℕ) : Type 0 where
  pub chosen : (x ≡ 0 → ⊥) → has x ≡ list_choice kind (frame_of t) (list_of t c) (name_of t c)
