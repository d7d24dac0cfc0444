-- What a poll says of a set of rows, in the code's words.
use Rattle.std.specs.Prelude.{◌≡◌, Bool, ◌&&◌, List, ℕ, eqb}
use Rattle.sets.specs.Upto.{lowest, most}
use Rattle.sets.specs.Sets.{has}
use Rattle.fields.specs.Layout.{list_of}
use Rattle.protocol.specs.Polls.{Poll, highest_epoch, in_force, good_version, good, current}
use Rattle.verdicts.specs.declared.Tally.{Tally}
use Rattle.verdicts.specs.declared.Force.{Force}
use Rattle.verdicts.specs.declared.Verdict.{Verdict}

-- of a set: the good rows, their version, is it current
pub record Tallied (p : Poll) (s : ℕ → Bool) (c : Tally) : Type 0 where
  pub good : has c.good.bits ≡ good p s
  pub version : c.version ≡ good_version p s
  pub current : c.current ≡ current p s

-- the highest of these epochs in s, and the list of the lowest row of s that has it
pub record Led (t : List ℕ) (epochs : ℕ → ℕ) (s : ℕ → Bool) (f : Force) : Type 0 where
  pub epoch : f.epoch ≡ most 64 s epochs
  pub list : f.list ≡ list_of t (lowest 64 (λ i. s i && eqb (epochs i) f.epoch))

-- all of it
pub record Judged (p : Poll) (s : ℕ → Bool) (v : Verdict) : Type 0 where
  pub tally : Tallied p s v.tally
  pub epoch : v.force.epoch ≡ highest_epoch p s
  pub list : v.force.list ≡ in_force p s
