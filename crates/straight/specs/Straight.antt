-- A table as most calls meet it: its chain goes from row to row, and its rows have one list or two.
use Rattle.std.specs.Prelude.{◌≡◌, true, cond, ◌&&◌, ◌⊎◌, List, ℕ, zero, suc, ◌+◌, ◌≤◌, ◌<◌, ltb, set}
use Rattle.sets.specs.Upto.{Within, every}
use Rattle.sets.specs.Sets.{has}
use Rattle.octets.specs.Bytes.{number, part, all_zero}
use Rattle.fields.specs.Layout.{get, form_value, members, county, is_tall, used_of, first_of, row_bytes, name_of, link_of, epoch_of, list_of}
use Rattle.counties.specs.Marks.{mark_right, tall_right}
use Rattle.table.specs.WellFormed.{limit, only_rows, head_right, lists_agree, marks_right}

-- the row behind row i of n; 0 behind the last
unfoldable pub behind : ℕ → ℕ → ℕ
behind n i = cond (ltb i n) (i + 1) 0

-- the name that the one behind row k is to be above, 0 where there is no row k
unfoldable pub name_before : List ℕ → ℕ → ℕ
name_before t zero = 0
name_before t (suc k) = name_of t (suc k)

-- what is known then: each head is right by itself, the chain goes from row to row, names rise, and the lists are right
pub record Straight (t : List ℕ) : Type 0 where
  pub heads : (i : ℕ) → Within (used_of t) i → head_right form_value (used_of t) i (row_bytes t i) ≡ true
  pub first : first_of t ≡ 1
  pub links : (i : ℕ) → Within (used_of t) i → link_of t i ≡ behind (used_of t) i
  pub names : (k : ℕ) → k < used_of t → name_before t k < name_of t (k + 1)
  pub lists : (every (used_of t) (λ i. every (used_of t) (λ j. lists_agree (row_bytes t i) (row_bytes t j))) && (marks_right t && tall_right (used_of t) (list_of t))) ≡ true

-- the first k places of an array hold 1 to k, and every other place stays
unfoldable pub numbered : List ℕ → ℕ → List ℕ
numbered rows zero = rows
numbered rows (suc k) = set (numbered rows k) k (suc k)

-- ---- on the way: of one row by itself, all but name, epoch number and list
pub record Placed (n i : ℕ) (row : List ℕ) : Type 0 where
  pub link : number (part 2 8 row) ≡ behind n i
  pub gap : number (part 10 2 row) ≡ 0
  pub own : has (get members row) i ≡ true
  pub rest : all_zero (part 27 5 row) ≡ true
  pub placed : Within 8 (get county row)

-- rows i and j have one epoch number and one list
pub record Alike (t : List ℕ) (i j : ℕ) : Type 0 where
  pub epoch : epoch_of t i ≡ epoch_of t j
  pub list : list_of t i ≡ list_of t j

-- row i has the list of row 1 or of the other row; that is the other of before, or row i itself where there was none
pub record Listed (t : List ℕ) (before i other : ℕ) : Type 0 where
  pub named : (other ≡ before) ⊎ ((before ≡ 1) × (other ≡ i))
  pub list : Alike t i 1 ⊎ Alike t i other
  pub rest : all_zero (part 25 1 (row_bytes t i)) ≡ true

-- the lists of row 1 and of the other row are right by themselves, the members' counties being these, and they agree
pub record Settled (t : List ℕ) (county : ℕ → ℕ) (other : ℕ) : Type 0 where
  pub epochs : (epoch_of t 1 ≤ limit) × (epoch_of t other ≤ limit)
  pub rows : (only_rows (used_of t) (get members (row_bytes t 1)) ≡ true) × (only_rows (used_of t) (get members (row_bytes t other)) ≡ true)
  pub marks : (mark_right county (list_of t 1) ≡ true) × (mark_right county (list_of t other) ≡ true)
  pub apart : (other ≡ 1) ⊎ ((epoch_of t 1 ≡ epoch_of t other → ⊥) × (is_tall (list_of t 1) ≡ is_tall (list_of t other)))
