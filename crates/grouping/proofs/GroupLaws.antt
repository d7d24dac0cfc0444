-- Rows put into eight sets, one by one; what the sets tell then; and the members in a county, by the set of that county.
use mathlib.Core.Path.{◌≡◌, refl, sym, ◌∙◌, ap, fun_ext}
use mathlib.Core.Bool.{Bool, true, false, cond, ◌&&◌, ◌||◌, or-false, and-true, and-false}
use mathlib.Core.List.{List}
use Prim.Native.Nat.{ℕ, zero, suc, ◌+◌, ◌-◌, ◌≤◌, ◌<◌}
use native.Mathlib.Decide.{ℕ_discrete, dec_le}
use native.Mathlib.Omega.{arith}
use lib.Dec.{eqb, leb}
use lib.ListN.{length, get_or, set, replicate, take, length-set}
use lib.Seq.{get_or-set_same, get_or-set_other}
use borrow.Author.Tests.{eqb-true, eq-eqb, ne_eqb, le-leb, leb-true, lt-leb}
use Rattle.bools.proofs.BoolLaws.{and_l, and_r, and_i, same_test}
use Rattle.sets.specs.Upto.{Within, lowest}
use Rattle.sets.specs.Sets.{has, first_rows, gaining, cut_to}
use Rattle.sets.proofs.UptoLaws.{lowest-ext, lowest-none, lowest-is}
use Rattle.sets.proofs.SetLaws.{row-yes, first-in, first-within, empty-at}
use Rattle.fields.specs.Layout.{get, county, used_of, row_bytes, county_of}
use Rattle.table.specs.Chain.{frame_of}
use Rattle.table.specs.WellFormed.{well_formed}
use Rattle.table.specs.Asked.{Linked, Ordered}
use Rattle.table.proofs.WellFormedLaws.{county-few}
use Rattle.counties.specs.Counties.{Frame, county_at, in_county}
use Rattle.counties.specs.Claims.{InOne}
use Rattle.counties.proofs.TwoLevelLaws.{in-county}
use Rattle.grouping.specs.Grouped.{county_by, Apart, Filled, Grouped, frame_by, Framed}

-- ---- the first k rows are in their sets
zero-at : (n j : ℕ) → ◌≡◌ {A = ℕ} (get_or (replicate n 0) j 0) 0
zero-at zero j = refl
zero-at (suc n) zero = refl
zero-at (suc n) (suc j) = zero-at n j

empty-set : (j i : ℕ) → has (get_or (replicate 8 0) j 0) i ≡ false
empty-set j i = ap (λ (s : ℕ). has s i) (zero-at 8 j) ∙ empty-at i

pub none_filled : (c : ℕ → ℕ) → Filled c 0 (replicate 8 0)
none_filled c = record { places = refl; rows = λ j i l. empty-set j i ∙ sym (none i (eqb (c i) (j + 1))) }
  where
    none : (i : ℕ) (b : Bool) → (leb 1 i && leb i 0 && b) ≡ false
    none zero b = refl
    none (suc i) b = rw (lt-leb (suc i) 0 (omega arith), and-false (leb 1 (suc i)))

-- row i among the first k + 1
more : (k i : ℕ) (b : Bool) → (leb 1 i && leb i (k + 1) && b) ≡ ((leb 1 i && leb i k && b) || (eqb i (k + 1) && b))
more k i b = go (ℕ_discrete i (k + 1)) (dec_le i k)
  where
    go : Dec (i ≡ k + 1) → Dec (i ≤ k) → (leb 1 i && leb i (k + 1) && b) ≡ ((leb 1 i && leb i k && b) || (eqb i (k + 1) && b))
    go (yes e) d = rw (eq-eqb i (k + 1) e, le-leb 1 i (omega arith), le-leb i (k + 1) (omega arith), lt-leb i k (omega arith))
    go (no e) (yes d) = rw (ne_eqb i (k + 1) e, le-leb i (k + 1) (omega arith), le-leb i k d) (sym (or-false _))
    go (no e) (no d) = rw (ne_eqb i (k + 1) e, lt-leb i (k + 1) (omega arith), lt-leb i k (omega arith)) (sym (or-false _))

module _ (c : ℕ → ℕ) (k : ℕ) (sets : List ℕ) (f : Filled c k sets) where
  -- a set that row k + 1 is not in
  without : (m i : ℕ) → m < 8 → (c (k + 1) ≡ m + 1 → ⊥) → has (get_or sets m 0) i ≡ (leb 1 i && leb i (k + 1) && eqb (c i) (m + 1))
  without m i w d = f.rows m i w ∙ kept (ℕ_discrete i (k + 1))
    where
      kept : Dec (i ≡ k + 1) → (leb 1 i && leb i k && eqb (c i) (m + 1)) ≡ (leb 1 i && leb i (k + 1) && eqb (c i) (m + 1))
      kept (yes q) = rw (ne_eqb (c i) (m + 1) (λ z. d (sym (ap c q) ∙ z)), and-false (leb 1 i && leb i k), and-false (leb 1 i && leb i (k + 1)))
      kept (no q) = sym (more k i (eqb (c i) (m + 1)) ∙ rw (ne_eqb i (k + 1) q) (or-false _))

  -- it has no county
  pub none_more : c (k + 1) ≡ 0 → Filled c (k + 1) sets
  none_more z = record { places = f.places; rows = λ m i w. without m i w (λ q. omega (arith, q, z)) }

  -- it is put into the set of its county
  pub one_more : k < 64 → (j v : ℕ) → j < 8 → c (k + 1) ≡ j + 1 → has v ≡ gaining (has (get_or sets j 0)) (k + 1) → Filled c (k + 1) (set sets j v)
  unfolding gaining
  one_more few j v l here grown = record { places = simp length-set f.places; rows = λ m i w. at m i w (ℕ_discrete m j) }
    where
      added : (i : ℕ) → Dec (i ≡ k + 1) → ((leb 1 i && leb i k && eqb (c i) (j + 1)) || eqb i (k + 1)) ≡ ((leb 1 i && leb i k && eqb (c i) (j + 1)) || (eqb i (k + 1) && eqb (c i) (j + 1)))
      added i (yes q) = rw (eq-eqb (c i) (j + 1) (ap c q ∙ here), eq-eqb i (k + 1) q)
      added i (no q) = rw (ne_eqb i (k + 1) q)

      at : (m i : ℕ) → m < 8 → Dec (m ≡ j) → has (get_or (set sets j v) m 0) i ≡ (leb 1 i && leb i (k + 1) && eqb (c i) (m + 1))
      at m i w (yes e) =
          ap (λ (x : ℕ). has (get_or (set sets j v) x 0) i) e ∙ ap (λ (x : ℕ). has x i) (get_or-set_same sets j v 0 (omega (arith, f.places))) ∙ ap (λ (g : ℕ → Bool). g i) grown
          ∙ rw (row-yes (k + 1) (omega arith), f.rows j i l, e) (added i (ℕ_discrete i (k + 1)) ∙ sym (more k i (eqb (c i) (j + 1))))
      at m i w (no d) = ap (λ (x : ℕ). has x i) (get_or-set_other sets j m v 0 d) ∙ without m i w (λ q. d (omega (arith, q, here)))

-- ---- all in one county
-- in none
pub none-whole : (n : ℕ) → Filled (λ i. 0) n (replicate 8 0)
none-whole n = record { places = refl; rows = λ j i l. empty-set j i ∙ sym (rw (ne_eqb 0 (j + 1) (λ z. omega arith)) (and-false (leb 1 i && leb i n))) }

-- in county y
pub all_whole : (n y v : ℕ) → n ≤ 64 → Within 8 y → has v ≡ first_rows n → Filled (λ i. y) n (set (replicate 8 0) (y - 1) v)
all_whole n y v few w e = record { places = simp length-set refl; rows = λ m i l. at m i (ℕ_discrete m (y - 1)) }
  where
    inside : (i : ℕ) → first_rows n i ≡ (leb 1 i && leb i n)
    inside i = same_test _ _
        (λ h. let q = first-within n i h in and_i _ _ (le-leb 1 i q.0) (le-leb i n q.1))
        (λ h. first-in n i few (leb-true 1 i (and_l _ _ h), leb-true i n (and_r (leb 1 i) _ h)))

    at : (m i : ℕ) → Dec (m ≡ y - 1) → has (get_or (set (replicate 8 0) (y - 1) v) m 0) i ≡ (leb 1 i && leb i n && eqb y (m + 1))
    at m i (yes q) =
        ap (λ (x : ℕ). has (get_or (set (replicate 8 0) (y - 1) v) x 0) i) q ∙ ap (λ (x : ℕ). has x i) (get_or-set_same (replicate 8 0) (y - 1) v 0 (omega arith)) ∙ ap (λ (g : ℕ → Bool). g i) e
        ∙ inside i ∙ rw (eq-eqb y (m + 1) (omega arith)) (sym (and-true (leb 1 i && leb i n)))
    at m i (no d) =
        ap (λ (x : ℕ). has x i) (get_or-set_other (replicate 8 0) (y - 1) m v 0 d) ∙ empty-set m i
        ∙ sym (rw (ne_eqb y (m + 1) (λ z. d (omega arith))) (and-false (leb 1 i && leb i n)))

-- sets by one's counties are sets by another's where these are the same
pub filled-same : (c d : ℕ → ℕ) (n : ℕ) (sets : List ℕ) → ((i : ℕ) → Within n i → c i ≡ d i) → Filled c n sets → Filled d n sets
filled-same c d n sets same f = record { places = f.places; rows = λ j i l. f.rows j i l ∙ go j i (leb 1 i && leb i n) refl }
  where
    go : (j i : ℕ) (b : Bool) → (leb 1 i && leb i n) ≡ b → (b && eqb (c i) (j + 1)) ≡ (b && eqb (d i) (j + 1))
    go j i true e = rw (same i (leb-true 1 i (and_l _ _ e), leb-true i n (and_r (leb 1 i) _ e)))
    go j i false e = refl

-- one row more has the county of all before it
pub same_more : (c : ℕ → ℕ) (y k own : ℕ) (same : Bool) → (same ≡ true → (i : ℕ) → Within k i → y ≡ c i) → own ≡ c (k + 1)
    → (same && eqb own y) ≡ true → (i : ℕ) → Within (k + 1) i → y ≡ c i
same_more c y k own same before here h i w = go (ℕ_discrete i (k + 1))
  where
    go : Dec (i ≡ k + 1) → y ≡ c i
    go (yes e) = sym (eqb-true own y (and_r same _ h)) ∙ here ∙ ap c (sym e)
    go (no d) = before (and_l _ _ h) i (omega (arith, w, d))

-- ---- all n are: the sets tell their counties
module _ (c : ℕ → ℕ) (n : ℕ) (few : (i : ℕ) → Within n i → c i ≤ 8) (sets : List ℕ) (f : Filled c n sets) where
  abbrev told : ℕ → ℕ
  told i = cond (leb 1 i && leb i n) (c i) 0

  there : (k i : ℕ) → k < 8 → has (get_or sets k 0) i ≡ eqb (told i) (k + 1)
  there k i l = f.rows k i l ∙ go (leb 1 i && leb i n) (c i)
    where
      go : (b : Bool) (x : ℕ) → (b && eqb x (k + 1)) ≡ eqb (cond b x 0) (k + 1)
      go true x = refl
      go false x = sym (ne_eqb 0 (k + 1) (λ z. omega arith))

  told-few : (i : ℕ) → told i ≤ 8
  told-few i = go (leb 1 i && leb i n) refl
    where
      go : (b : Bool) → (leb 1 i && leb i n) ≡ b → cond b (c i) 0 ≤ 8
      go true e = few i (leb-true 1 i (and_l _ _ e), leb-true i n (and_r (leb 1 i) _ e))
      go false e = omega arith

  pub all_told : county_by sets ≡ (λ (i : ℕ). cond (leb 1 i && leb i n) (c i) 0)
  unfolding county_by
  all_told =
      fun_ext (λ i. lowest-ext 8 _ (eqb (told i)) (λ j w. let back : j - 1 + 1 ≡ j = omega arith in there (j - 1) i (omega arith) ∙ ap (eqb (told i)) back) ∙ found (told i) (told-few i) (ℕ_discrete (told i) 0))
    where
      found : (x : ℕ) → x ≤ 8 → Dec (x ≡ 0) → lowest 8 (eqb x) ≡ x
      found x l (yes z) = lowest-none 8 (eqb x) (λ j w. ne_eqb x j (λ q. omega arith)) ∙ sym z
      found x l (no d) = lowest-is 8 (eqb x) x (omega arith) (eq-eqb x x refl) (λ j l u. ne_eqb x j (λ q. omega arith))

  pub all_apart : Apart sets
  all_apart = record { places = f.places; rows = λ k i l. there k i l ∙ ap (λ (g : ℕ → ℕ). eqb (g i) (k + 1)) (sym all_told) }

-- ---- of a table
pub table-grouped : (t sets : List ℕ) → Linked t → Filled (λ i. get county (row_bytes t i)) (used_of t) sets → Grouped t sets
unfolding county_of
table-grouped t sets l f = record { apart = all_apart _ _ (county-few l) sets f; county = all_told _ _ (county-few l) sets f }

-- with its order, its frame
pub frame-by : (t order sets : List ℕ) → Ordered t order → Grouped t sets → frame_by (take (used_of t) order) sets ≡ frame_of t
unfolding frame_by frame_of
frame-by t order sets o g = λ i. record { order = o.order i; county = g.county i }

-- and that of every well-formed table with as many rows used and the same frame
pub framed-too : {t u order sets : List ℕ} → well_formed u ≡ true → used_of u ≡ used_of t → frame_of u ≡ frame_of t → Framed t order sets → Framed u order sets
unfolding frame_of
framed-too {t} {u} {order} w e q f = record {
  formed = w;
  ordered = record {
    listed = rw e f.ordered.listed;
    order = ap (λ (n : ℕ). take n order) e ∙ f.ordered.order ∙ sym (ap (λ (x : Frame). x.order) q);
  };
  grouped = record { apart = f.grouped.apart; county = f.grouped.county ∙ sym (ap (λ (x : Frame). x.county) q) };
}

-- ---- of counties in a list
pub places-grouped : (places sets : List ℕ) → ((k : ℕ) → k < length places → get_or places k 0 ≤ 8) → Filled (λ i. get_or places (i - 1) 0) (length places) sets
    → Apart sets × (county_by sets ≡ county_at places)
unfolding county_at
places-grouped places sets low f = (all_apart _ _ few sets f, all_told _ _ few sets f)
  where
    few : (i : ℕ) → Within (length places) i → get_or places (i - 1) 0 ≤ 8
    few i w = low (i - 1) (omega arith)

-- ---- members
module _ (sets : List ℕ) (p : ℕ → Bool) (k : ℕ) (l : k < 8) where
  pub inside_is : Apart sets → cut_to p (has (get_or sets k 0)) ≡ in_county (county_by sets) p (k + 1)
  unfolding cut_to in_county
  inside_is a = fun_ext (λ i. ap (λ (b : Bool). p i && b) (a.rows k i l))

  -- where they are all that there are
  pub all-inside : in_county (county_by sets) p (k + 1) ≡ p → InOne (county_by sets) p
  all-inside e = record {
    which = k + 1;
    placed = omega arith;
    there = λ i y. (in-county (county_by sets) p (k + 1) i (ap (λ (q : ℕ → Bool). q i) e ∙ y)).1;
  }
