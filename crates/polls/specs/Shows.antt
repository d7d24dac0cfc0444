-- How the code keeps a poll.
use Rattle.std.specs.Prelude.{◌≡◌, not, ℕ}
use Rattle.sets.specs.Sets.{has}
use Rattle.fields.specs.Layout.{is_empty}
use Rattle.protocol.specs.Polls as definition
use Rattle.places.specs.Places.{placed}
use Rattle.polls.specs.declared.Poll.{Poll}

-- the code's poll is the definition's, but for the rows' lists: which rows have one is kept, the lists stay in the table
pub record Shows (p : Poll) (q : definition.Poll) : Type 0 where
  pub stale : has p.stale.bits ≡ q.stale
  pub versions : placed p.versions ≡ q.version
  pub desired : placed p.desired ≡ q.desired
  pub epochs : placed p.epochs ≡ q.epoch
  pub listed : has p.listed.bits ≡ (λ (i : ℕ). not (is_empty (q.list i)))
