-- The counties of a table's rows, and its frame: what decides them.
use mathlib.Core.Path.{◌≡◌, refl, ◌∙◌, ap, fun_ext}
use mathlib.Core.Bool.{Bool, true, false, cond, ◌&&◌}
use mathlib.Core.List.{List}
use Prim.Native.Nat.{ℕ}
use lib.Dec.{leb}
use borrow.Author.Tests.{leb-true, le-leb}
use Rattle.bools.proofs.BoolLaws.{and_l, and_r}
use Rattle.sets.specs.Upto.{Within}
use Rattle.fields.specs.Layout.{get, county, used_of, row_bytes, county_of}
use Rattle.table.specs.Chain.{order_of, frame_of}
use Rattle.table.proofs.FormLaws.{Formed}

module _ (t : List ℕ) (i : ℕ) where
  pub county-at : Within (used_of t) i → county_of t i ≡ get county (row_bytes t i)
  unfolding county_of
  county-at w = rw (le-leb 1 i w.0, le-leb i (used_of t) w.1)

-- "each row gets a county, 1 to 8"
pub county-in : (t : List ℕ) → Formed t → (i : ℕ) → Within (used_of t) i → Within 8 (county_of t i)
county-in t f i w = rw (county-at t i w) (f.heads i w).county

-- ---- the used rows decide them
pub county-same : (t u : List ℕ) → used_of u ≡ used_of t → ((i : ℕ) → Within (used_of t) i → get county (row_bytes u i) ≡ get county (row_bytes t i)) → county_of u ≡ county_of t
unfolding county_of
county-same t u e same = fun_ext (λ i. ap (λ (n : ℕ). cond (leb 1 i && leb i n) (get county (row_bytes u i)) 0) e ∙ go i (leb 1 i && leb i (used_of t)) refl)
  where
    go : (i : ℕ) (b : Bool) → (leb 1 i && leb i (used_of t)) ≡ b → cond b (get county (row_bytes u i)) 0 ≡ cond b (get county (row_bytes t i)) 0
    go i true x = same i (leb-true 1 i (and_l _ _ x), leb-true i (used_of t) (and_r (leb 1 i) _ x))
    go i false x = refl

pub frame_same : (t u : List ℕ) → order_of u ≡ order_of t → county_of u ≡ county_of t → frame_of u ≡ frame_of t
unfolding frame_of
frame_same t u e c = λ i. record { order = e i; county = c i }
