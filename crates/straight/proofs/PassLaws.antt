-- What one pass over the heads sees, and what follows of the whole table.
use mathlib.Core.Path.{◌≡◌, refl, sym, subst, ◌∙◌, ap}
use mathlib.Core.Bool.{Bool, true, false, not, ◌||◌}
use mathlib.Core.Logic.{◌⊎◌, inl, inr}
use mathlib.Core.List.{List}
use Prim.Native.Nat.{ℕ, ◌+◌, ◌-◌, ◌≤◌, ◌<◌}
use native.Mathlib.Numerals.{add-one}
use native.Mathlib.Decide.{ℕ_discrete}
use native.Mathlib.Omega.{arith}
use lib.ListN.{length, replicate}
use borrow.Author.Tests.{le-leb, eq-eqb}
use Rattle.bools.proofs.BoolLaws.{and_i, or_l, or_r}
use Rattle.sets.specs.Upto.{Within, every, some}
use Rattle.sets.proofs.UptoLaws.{every_of, some-none}
use Rattle.octets.specs.Bytes.{number, part, all_zero}
use Rattle.octets.proofs.CodeLaws.{number-first, zero-append}
use Rattle.fields.specs.declared.Laid.{Laid}
use Rattle.fields.specs.Layout.{get, form_value, name, link, epoch, members, county, list, is_empty, is_tall, used_of, first_of, row_bytes, name_of, link_of, epoch_of, list_of, county_of}
use Rattle.counties.specs.Marks.{mark_right, tall_table, tall_right}
use Rattle.table.specs.WellFormed.{between, limit, only_rows, is_county, list_right, head_right, lists_agree, marks_right}
use Rattle.table.specs.Asked.{Sized}
use Rattle.table.proofs.FormLaws.{agree_of}
use Rattle.table.proofs.WellFormedLaws.{header, few-rows, row-long}
use Rattle.values.proofs.HeadLaws.{head-asked, front-asked}
use Rattle.grouping.specs.Grouped.{Filled, Grouped}
use Rattle.grouping.proofs.GroupLaws.{none_filled, all_apart, all_told}
use Rattle.straight.specs.Straight.{behind, name_before, Straight, Placed, Alike, Listed, Settled}
use Rattle.straight.proofs.RowLaws.{behind-in}

-- ---- the first k rows were passed: `low` is the name of the last, `other` the row that has the other list
pub record Passed (t sets : List ℕ) (k other low : ℕ) : Type 0 where
  pub few : k ≤ used_of t
  pub lowest : low ≡ name_before t k
  pub second : Within (used_of t) other
  pub rows : (i : ℕ) → Within k i → Placed (used_of t) i (row_bytes t i)
  pub names : (j : ℕ) → j < k → (name_before t j < name_of t (j + 1)) × (name_of t (j + 1) ≤ 65_535)
  pub lists : (i : ℕ) → Within k i → Alike t i 1 ⊎ Alike t i other
  pub rests : (i : ℕ) → Within k i → all_zero (part 25 1 (row_bytes t i)) ≡ true
  pub filled : Filled (λ i. get county (row_bytes t i)) k sets

pub none_passed : (t : List ℕ) → Sized t → Passed t (replicate 8 0) 0 1 0
unfolding name_before
none_passed t s = record {
  few = omega arith;
  lowest = refl;
  second = omega (arith, (header s.header).used);
  rows = λ i w. absurd (omega arith);
  names = λ j h. absurd (omega arith);
  lists = λ i w. absurd (omega arith);
  rests = λ i w. absurd (omega arith);
  filled = none_filled _;
}

pub before-is : (t : List ℕ) (k : ℕ) → name_before t (k + 1) ≡ name_of t (k + 1)
unfolding name_before
before-is t k = rw (add-one k)

-- one of the first k + 1
pub among-more : {P : ℕ → Type 0} (k : ℕ) → ((i : ℕ) → Within k i → P i) → P (k + 1) → (i : ℕ) → Within (k + 1) i → P i
among-more {P} k old new i w = go (ℕ_discrete i (k + 1))
  where
    go : Dec (i ≡ k + 1) → P i
    go (yes e) = subst P (sym e) new
    go (no d) = old i (omega (arith, w, d))

pub one-passed : {t sets : List ℕ} {k other low : ℕ} → Passed t sets k other low → k < used_of t → (more : List ℕ) (next name : ℕ) → name ≡ name_of t (k + 1) → low < name → name ≤ 65_535
    → Placed (used_of t) (k + 1) (row_bytes t (k + 1)) → Listed t other (k + 1) next → Filled (λ i. get county (row_bytes t i)) (k + 1) more → Passed t more (k + 1) next name
one-passed {t} {sets} {k} {other} {low} p h more next name e up small placed listed f = record {
  few = omega arith;
  lowest = e ∙ sym (before-is t k);
  second = found listed.named;
  rows = among-more k p.rows placed;
  names = λ j l. name-at j l (ℕ_discrete j k);
  lists = among-more k (λ i w. kept i (p.lists i w) listed.named) listed.list;
  rests = among-more k p.rests listed.rest;
  filled = f;
}
  where
    found : (next ≡ other) ⊎ ((other ≡ 1) × (next ≡ k + 1)) → Within (used_of t) next
    found (inl q) = rw q p.second
    found (inr q) = rw q.1 (omega arith)

    name-at : (j : ℕ) → j < k + 1 → Dec (j ≡ k) → (name_before t j < name_of t (j + 1)) × (name_of t (j + 1) ≤ 65_535)
    name-at j l (yes q) = rw q (omega (arith, p.lowest, e, up), omega (arith, e))
    name-at j l (no d) = p.names j (omega (arith, d))

    kept : (i : ℕ) → Alike t i 1 ⊎ Alike t i other → (next ≡ other) ⊎ ((other ≡ 1) × (next ≡ k + 1)) → Alike t i 1 ⊎ Alike t i next
    kept i (inl a) q = inl a
    kept i (inr a) (inl q) = inr (rw q a)
    kept i (inr a) (inr q) = inl (subst (Alike t i) q.0 a)

-- ---- a head that passed is right
head-right : (n i : ℕ) (row : List ℕ) → n ≤ 64 → 32 ≤ length row → 1 ≤ get name row → get name row ≤ 65_535 → Placed n i row → get epoch row ≤ limit → only_rows n (get members row) ≡ true
    → all_zero (part 25 1 row) ≡ true → head_right form_value n i row ≡ true
unfolding between is_county list_right
head-right n i row few long low high p below only z =
    head-asked n i row
    ∙ and_i _ _
    (front-asked n row few long
    ∙ and_i _ _ (and_i _ _ (le-leb 1 (get name row) low) (le-leb (get name row) 65_535 high))
    (and_i _ _ (le-leb (number (part 2 8 row)) n (omega (arith, p.link, behind-in n i))) (and_i _ _ (eq-eqb (number (part 10 2 row)) 0 p.gap) (le-leb (get epoch row) limit below))))
    (and_i _ _ (and_i _ _ only (or_r (is_empty (list row)) _ p.own))
    (and_i _ _ (zero-append (part 25 1 row) (part 27 5 row) ∙ and_i _ _ z p.rest) (and_i _ _ (le-leb 1 (get county row) p.placed.0) (le-leb (get county row) 8 p.placed.1))))

-- ---- lists of which each is one of two
module _ (t : List ℕ) (other : ℕ) (all : (i : ℕ) → Within (used_of t) i → Alike t i 1 ⊎ Alike t i other) (s : Settled t (county_of t) other) where
  agree : every (used_of t) (λ i. every (used_of t) (λ j. lists_agree (row_bytes t i) (row_bytes t j))) ≡ true
  unfolding epoch_of list_of
  agree = every_of (used_of t) _ (λ i v. every_of (used_of t) _ (λ j w. agree_of (row_bytes t i) (row_bytes t j) (λ a b q. go i j (all i v) (all j w) q)))
    where
      -- rows with the list of row 1 and with the other
      cross : (i j : ℕ) → Alike t i 1 → Alike t j other → epoch_of t i ≡ epoch_of t j → list_of t i ≡ list_of t j
      cross i j a b q = by s.apart
        where
          by : (other ≡ 1) ⊎ ((epoch_of t 1 ≡ epoch_of t other → ⊥) × (is_tall (list_of t 1) ≡ is_tall (list_of t other))) → list_of t i ≡ list_of t j
          by (inl o) = a.list ∙ ap (list_of t) (sym o) ∙ sym b.list
          by (inr d) = absurd (d.0 (sym a.epoch ∙ q ∙ b.epoch))

      go : (i j : ℕ) → Alike t i 1 ⊎ Alike t i other → Alike t j 1 ⊎ Alike t j other → epoch_of t i ≡ epoch_of t j → list_of t i ≡ list_of t j
      go i j (inl a) (inl b) q = a.list ∙ sym b.list
      go i j (inl a) (inr b) q = cross i j a b q
      go i j (inr a) (inl b) q = sym (cross j i b a (sym q))
      go i j (inr a) (inr b) q = a.list ∙ sym b.list

  marks : marks_right t ≡ true
  unfolding marks_right
  marks = every_of (used_of t) _ (λ i w. go i (all i w))
    where
      go : (i : ℕ) → Alike t i 1 ⊎ Alike t i other → mark_right (county_of t) (list_of t i) ≡ true
      go i (inl a) = ap (mark_right (county_of t)) a.list ∙ s.marks.0
      go i (inr a) = ap (mark_right (county_of t)) a.list ∙ s.marks.1

  tall : tall_right (used_of t) (list_of t) ≡ true
  unfolding tall_right tall_table
  tall = go (is_tall (list_of t 1)) refl
    where
      both : is_tall (list_of t other) ≡ is_tall (list_of t 1)
      both = by s.apart
        where
          by : (other ≡ 1) ⊎ ((epoch_of t 1 ≡ epoch_of t other → ⊥) × (is_tall (list_of t 1) ≡ is_tall (list_of t other))) → is_tall (list_of t other) ≡ is_tall (list_of t 1)
          by (inl o) = ap (λ (i : ℕ). is_tall (list_of t i)) o
          by (inr d) = sym d.1

      each : (i : ℕ) → Alike t i 1 ⊎ Alike t i other → is_tall (list_of t i) ≡ is_tall (list_of t 1)
      each i (inl a) = ap is_tall a.list
      each i (inr a) = ap is_tall a.list ∙ both

      go : (b : Bool) → is_tall (list_of t 1) ≡ b → (not (some (used_of t) (λ i. is_tall (list_of t i))) || every (used_of t) (λ i. is_empty (list_of t i) || is_tall (list_of t i))) ≡ true
      go true e = or_r (not (some (used_of t) (λ i. is_tall (list_of t i)))) (every (used_of t) (λ i. is_empty (list_of t i) || is_tall (list_of t i))) (every_of (used_of t) _ (λ i w. or_r (is_empty (list_of t i)) _ (each i (all i w) ∙ e)))
      go false e = or_l (not (some (used_of t) (λ i. is_tall (list_of t i)))) (every (used_of t) (λ i. is_empty (list_of t i) || is_tall (list_of t i))) (ap not (some-none (used_of t) _ (λ i w. each i (all i w) ∙ e)))

-- ---- all rows were passed
module _ {t sets : List ℕ} {other low : ℕ} (z : Sized t) (p : Passed t sets (used_of t) other low) where
  county-few : (i : ℕ) → Within (used_of t) i → get county (row_bytes t i) ≤ 8
  county-few i w = (p.rows i w).placed.1

  pub grouped : Grouped t sets
  unfolding county_of
  grouped = record { apart = all_apart _ _ county-few sets p.filled; county = all_told _ _ county-few sets p.filled }

  pub straight : first_of t ≡ 1 → Settled t (county_of t) other → Straight t
  unfolding name_of link_of epoch_of list_of list get link
  straight f s = record {
    heads = λ i w. head i w (p.lists i w);
    first = f;
    links = λ i w. linked i w;
    names = λ k h. (p.names k h).0;
    lists = and_i _ _ (agree t other p.lists s) (and_i _ _ (marks t other p.lists s) (tall t other p.lists s));
  }
    where
      linked : (i : ℕ) → Within (used_of t) i → link_of t i ≡ behind (used_of t) i
      linked i w = omega (arith, (p.rows i w).link, number-first 2 7 (row_bytes t i) (omega (arith, row-long z i w)), behind-in (used_of t) i, few-rows z)

      named : (i : ℕ) → Within (used_of t) i → (1 ≤ name_of t i) × (name_of t i ≤ 65_535)
      named i w =
          let e : i - 1 + 1 ≡ i = omega arith in
          let n = p.names (i - 1) (omega arith) in
          let m : name_of t (i - 1 + 1) ≡ name_of t i = ap (name_of t) e in
          (omega (arith, n.0, m), omega (arith, n.1, m))

      head : (i : ℕ) → Within (used_of t) i → Alike t i 1 ⊎ Alike t i other → head_right form_value (used_of t) i (row_bytes t i) ≡ true
      head i w a = head-right (used_of t) i (row_bytes t i) (few-rows z) (row-long z i w) (named i w).0 (named i w).1 (p.rows i w) (below a) (only a) (p.rests i w)
        where
          below : Alike t i 1 ⊎ Alike t i other → get epoch (row_bytes t i) ≤ limit
          below (inl a) = omega (arith, a.epoch, s.epochs.0)
          below (inr a) = omega (arith, a.epoch, s.epochs.1)

          only : Alike t i 1 ⊎ Alike t i other → only_rows (used_of t) (get members (row_bytes t i)) ≡ true
          only (inl a) = ap (λ (l : Laid). only_rows (used_of t) l.members) a.list ∙ s.rows.0
          only (inr a) = ap (λ (l : Laid). only_rows (used_of t) l.members) a.list ∙ s.rows.1
