-- Where the code puts a patch in a window.
use Rattle.std.specs.Prelude.{◌≡◌, cond, ℕ, ◌≤◌, eqb}
use Rattle.sets.specs.Upto.{Within}
use Rattle.window.specs.Windows.{Window, taken, left, youngest}

-- the record that a patch takes, the youngest one before it, and the oldest one after
pub record Placed (w : Window) (x l first : ℕ) : Type 0 where
  pub takes : x ≡ taken w
  pub behind : l ≡ youngest w
  pub starts : first ≡ cond (eqb (left w) 0) (taken w) (left w)
  pub within : Within 16 x
  pub few : l ≤ 16
  pub small : first ≤ 16
