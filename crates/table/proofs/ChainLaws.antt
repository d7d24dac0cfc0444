-- The walk along the chain.
use mathlib.Core.Path.{◌≡◌, refl, sym, subst, ◌∙◌, ap, ap₂, fun_ext}
use mathlib.Core.Bool.{Bool, true, false, ◌&&◌, ◌||◌, and-true, and-false, or-false}
use mathlib.Core.List.{List, [], ◌∷◌, ◌++◌, append-nil}
use Prim.Native.Nat.{ℕ, zero, suc, ◌+◌, ◌-◌, ◌≤◌, ◌<◌}
use native.Mathlib.Nat.{zero-add}
use native.Mathlib.Numerals.{add-one}
use native.Mathlib.Decide.{dec_le}
use native.Mathlib.Omega.{arith}
use lib.Dec.{eqb}
use lib.ListN.{length, take, drop, set, length-set, length-take, length-append, take-append-drop}
use lib.Seq.{take_all, drop-set-lt, drop-drop, take-suc-set, append_snoc, get_or-set_same, get_or-set_other}
use borrow.Author.Tests.{eqb-true, eq-eqb, ne_eqb, lt-ltb, le-ltb}
use borrow.Author.Count.{below_more}
use Rattle.sets.specs.Upto.{Within, every, among, rises_from}
use Rattle.sets.specs.Sets.{has, gaining}
use Rattle.bools.proofs.BoolLaws.{and_l, and_r}
use Rattle.sets.proofs.UptoLaws.{every-at}
use Rattle.sets.proofs.SetLaws.{empty-at, gain-where}
use Rattle.fields.specs.Layout.{form_value, form_of, used_of, first_of, link_of, name_of}
use Rattle.octets.specs.Bytes.{put}
use Rattle.linking.specs.Linking.{chain}
use Rattle.linking.proofs.PathLaws.{chain-zero, chain-suc}
use Rattle.table.specs.Chain.{order_of}
use Rattle.table.specs.WellFormed.{header_values, length_right, row_right, visits_each, names_rise, own_form, well_formed}
use Rattle.table.specs.Asked.{Linked, Listed, Ordered, passed, walked_into, order_left}
use Rattle.sets.proofs.TestLaws.{eqb_swap}
use Rattle.table.proofs.WellFormedLaws.{own-form, header, few-rows, link-in}

-- ---- the order of a well-formed table
-- a shorter walk is the start of a longer one
chain-start : (next : ℕ → ℕ) (n i : ℕ) → chain next n i ≡ take n (chain next (suc n) i)
unfolding chain
chain-start next zero i = refl
chain-start next (suc n) zero = refl
chain-start next (suc n) (suc k) = ap (λ (xs : List ℕ). suc k ∷ xs) (chain-start next n (next (suc k)))

module _ (t : List ℕ) (e : well_formed t ≡ true) where
  visits : visits_each t ≡ true
  unfolding own_form
  visits = let own = own-form t e in search (and_l, and_r)

  -- it is the whole chain
  pub order-path : order_of t ≡ chain (link_of t) (suc (used_of t)) (first_of t)
  unfolding order_of visits_each
  order-path =
      let n : length (chain (link_of t) (suc (used_of t)) (first_of t)) ≡ used_of t = eqb-true _ _ (and_l _ _ visits) in
      chain-start (link_of t) (used_of t) (first_of t) ∙ take_all (used_of t) (chain (link_of t) (suc (used_of t)) (first_of t)) (omega arith)

  pub order-length : length (order_of t) ≡ used_of t
  unfolding visits_each
  order-length = ap length order-path ∙ eqb-true _ _ (and_l _ _ visits)

  pub order-each : (i : ℕ) → Within (used_of t) i → among (order_of t) i ≡ true
  unfolding visits_each
  order-each i w = rw order-path (every-at (used_of t) _ (and_r (eqb (length (chain (link_of t) (suc (used_of t)) (first_of t))) (used_of t)) _ visits) i w)

  pub order-rises : rises_from 0 (name_of t) (order_of t) ≡ true
  unfolding own_form names_rise
  order-rises = let own = own-form t e in let n : names_rise t ≡ true = search (and_l, and_r) in rw order-path n

-- ---- rows in an array
pub listed_in : {n m count : ℕ} {rows : List ℕ} → n ≤ m → Listed n rows count → Listed m rows count
listed_in h l = record { places = l.places; few = l.few; each = λ k q. let w = l.each k q in omega arith }

-- ---- the walk: the chain with one step more than rows are used, and what is left of it behind the rows passed
abbrev whole : List ℕ → List ℕ
whole t = chain (link_of t) (suc (used_of t)) (first_of t)

abbrev rest : List ℕ → ℕ → ℕ → List ℕ
rest t count next = chain (link_of t) (suc (used_of t) - count) next

-- `count` rows were passed: `rows` starts with them, `seen` are they, their names rise to `low`; `next` is to come (0 where the chain has ended)
-- `lent` is what `rows` were before
pub record Walked (t lent rows : List ℕ) (seen : ℕ → Bool) (low count next : ℕ) : Type 0 where
  pub listed : Listed (used_of t) rows count
  pub few : count ≤ used_of t
  pub on : next ≤ used_of t
  pub path : (m : ℕ) → take count rows ++ chain (link_of t) m next ≡ chain (link_of t) (count + m) (first_of t)
  pub members : among (whole t) ≡ (λ (i : ℕ). seen i || among (rest t count next) i)
  pub rising : rises_from 0 (name_of t) (whole t) ≡ rises_from low (name_of t) (rest t count next)
  -- the rows that are passed in all, and the places behind
  pub passing : take count rows ++ passed (link_of t) (name_of t) (used_of t - count) low next ≡ passed (link_of t) (name_of t) (used_of t) 0 (first_of t)
  pub others : drop count rows ≡ drop count lent

drop_more : (n : ℕ) (xs ys : List ℕ) → drop n xs ≡ drop n ys → drop (n + 1) xs ≡ drop (n + 1) ys
drop_more n xs ys e = sym (drop-drop 1 n xs) ∙ ap (drop 1) e ∙ drop-drop 1 n ys

-- one row more, or none
passed_on : (next name : ℕ → ℕ) (n a i : ℕ) → 1 ≤ i → a < name i → passed next name (suc n) a i ≡ i ∷ passed next name n (name i) (next i)
unfolding passed
passed_on next name n a zero p h = absurd (omega arith)
passed_on next name n a (suc k) p h = rw (lt-ltb a (name (suc k)) h)

passed-falls : (next name : ℕ → ℕ) (n a i : ℕ) → name i ≤ a → passed next name n a i ≡ []
unfolding passed
passed-falls next name zero a i h = refl
passed-falls next name (suc n) a zero h = refl
passed-falls next name (suc n) a (suc k) h = rw (le-ltb a (name (suc k)) h)

passed-end : (next name : ℕ → ℕ) (n a : ℕ) → passed next name n a 0 ≡ []
unfolding passed
passed-end next name zero a = refl
passed-end next name (suc n) a = refl

module _ {t : List ℕ} (l : Linked t) where
  pub walk_start : (rows : List ℕ) (next : ℕ) → length rows ≡ 64 → next ≡ first_of t → Walked t rows rows (has 0) 0 0 next
  walk_start rows next d e =
      let z : suc (used_of t) - 0 ≡ suc (used_of t) = omega arith in
      let all : whole t ≡ rest t 0 next = sym (ap₂ (chain (link_of t)) z e) in
      record {
        listed = record { places = d; few = omega arith; each = λ k h. absurd (omega arith) };
        few = omega arith;
        on = omega (arith, (header l.sized.header).first);
        path = λ m. ap₂ (chain (link_of t)) (sym (zero-add m)) e;
        members = fun_ext (λ i. rw (empty-at i) (ap (λ (xs : List ℕ). among xs i) all));
        rising = ap (rises_from 0 (name_of t)) all;
        passing = let n : used_of t - 0 ≡ used_of t = omega arith in ap₂ (λ (m i : ℕ). passed (link_of t) (name_of t) m 0 i) n e;
        others = refl;
      }

  pub walk_turn : {lent rows : List ℕ} {seen : ℕ → Bool} {low count next : ℕ} → Walked t lent rows seen low count next
      → (more : ℕ → Bool) (name after : ℕ) → count < used_of t → 1 ≤ next → more ≡ gaining seen next → name ≡ name_of t next → low < name → after ≡ link_of t next
      → Walked t lent (set rows count next) more name (count + 1) after
  unfolding among rises_from
  walk_turn {lent} {rows} {seen} {low} {count} {next} w more name after h p g d up e =
      let room : count < length rows = omega (arith, few-rows l.sized, w.listed.places) in
      let n : suc (used_of t) - count ≡ suc (suc (used_of t) - (count + 1)) = omega arith in
      let step : rest t count next ≡ next ∷ rest t (count + 1) after =
      ap (λ (k : ℕ). chain (link_of t) k next) n ∙ chain-suc (link_of t) _ next p
      ∙ ap (λ (k : ℕ). next ∷ chain (link_of t) (suc (used_of t) - (count + 1)) k) (sym e) in
      record {
        listed = record {
          places = length-set rows count next ∙ w.listed.places;
          few = omega (arith, few-rows l.sized);
          each = below_more _ count
              (λ k q. rw (get_or-set_other rows count k next 0 (λ z. omega arith)) (w.listed.each k q))
              (rw (get_or-set_same rows count next 0 room) (p, w.on));
        };
        few = omega arith;
        on = rw e (link-in l next (p, w.on));
        path = λ m.
            let k : count + suc m ≡ count + 1 + m = omega arith in
            rw (e, add-one count, take-suc-set rows count next room, append_snoc)
            (ap (λ (xs : List ℕ). take count rows ++ xs) (sym (chain-suc (link_of t) m next p)) ∙ w.path (suc m)
            ∙ ap (λ (j : ℕ). chain (link_of t) j (first_of t)) (k ∙ ap (λ (j : ℕ). j + m) (add-one count)));
        members = fun_ext (λ i.
            ap (λ (q : ℕ → Bool). q i) w.members ∙ ap (λ (xs : List ℕ). seen i || among xs i) step
            ∙ swap (seen i) (among (rest t (count + 1) after) i) (eqb next i)
            ∙ ap (λ (b : Bool). (seen i || b) || among (rest t (count + 1) after) i) (eqb_swap next i)
            ∙ ap (λ (q : ℕ → Bool). q i || among (rest t (count + 1) after) i) (sym (g ∙ gain-where seen next true (omega (arith, w.on, few-rows l.sized)))));
        rising = w.rising ∙ ap (rises_from low (name_of t)) step ∙ rw (← d, lt-ltb low name up);
        passing =
            let m : used_of t - count ≡ suc (used_of t - suc count) = omega arith in
            let one : passed (link_of t) (name_of t) (used_of t - count) low next ≡ next ∷ passed (link_of t) (name_of t) (used_of t - suc count) name after =
            ap (λ (k : ℕ). passed (link_of t) (name_of t) k low next) m ∙ passed_on (link_of t) (name_of t) _ low next p (omega (arith, d))
            ∙ ap₂ (λ (a i : ℕ). next ∷ passed (link_of t) (name_of t) (used_of t - suc count) a i) (sym d) (sym e) in
            rw (add-one count, take-suc-set rows count next room, append_snoc) (ap (λ (xs : List ℕ). take count rows ++ xs) (sym one) ∙ w.passing);
        others = drop-set-lt (count + 1) rows count next (omega arith) ∙ drop_more count rows lent w.others;
      }
    where
      swap : (a b c : Bool) → (a || (b || c)) ≡ ((a || c) || b)
      swap true b c = refl
      swap false true true = refl
      swap false true false = refl
      swap false false c = sym (or-false c)

-- each way out
module _ {t lent rows : List ℕ} {seen : ℕ → Bool} {low count next : ℕ} (w : Walked t lent rows seen low count next) where
  -- where no row more is passed, the array is what the walk leaves in it
  left_in : passed (link_of t) (name_of t) (used_of t - count) low next ≡ [] → rows ≡ walked_into t lent
  unfolding walked_into put
  left_in e =
      let p : take count rows ≡ passed (link_of t) (name_of t) (used_of t) 0 (first_of t) = sym (append-nil (take count rows)) ∙ ap (λ (xs : List ℕ). take count rows ++ xs) (sym e) ∙ w.passing in
      let n : length (take count rows) ≡ count = omega (arith, length-take count rows, w.listed.places, w.listed.few) in
      let z : 0 + length (take count rows) ≡ count = omega arith in
      rw (← p, z, ← w.others) (sym (take-append-drop count rows))

  pub left-short : next ≡ 0 → rows ≡ walked_into t lent
  left-short e = left_in (ap (passed (link_of t) (name_of t) (used_of t - count) low) e ∙ passed-end (link_of t) (name_of t) _ low)

  pub left-falls : name_of t next ≤ low → rows ≡ walked_into t lent
  left-falls h = left_in (passed-falls (link_of t) (name_of t) _ low next h)

  pub left-all : count ≡ used_of t → rows ≡ walked_into t lent
  unfolding passed
  left-all e = let z : used_of t - count ≡ 0 = omega arith in left_in (ap (λ (n : ℕ). passed (link_of t) (name_of t) n low next) z)

  ended : next ≡ 0 → rest t count next ≡ []
  ended e = ap (chain (link_of t) (suc (used_of t) - count)) e ∙ chain-zero (link_of t) (suc (used_of t) - count)

  goes_on : 1 ≤ next → rest t count next ≡ next ∷ chain (link_of t) (used_of t - count) (link_of t next)
  goes_on p =
      let n : suc (used_of t) - count ≡ suc (used_of t - count) = omega (arith, w.few) in
      ap (λ (k : ℕ). chain (link_of t) k next) n ∙ chain-suc (link_of t) (used_of t - count) next p

  lengths : length (whole t) ≡ count + length (rest t count next)
  lengths =
      let n : count + (suc (used_of t) - count) ≡ suc (used_of t) = omega (arith, w.few) in
      let k : length (take count rows) ≡ count = omega (arith, length-take count rows, w.listed.places, w.listed.few) in
      ap length (sym (w.path (suc (used_of t) - count) ∙ ap (λ (j : ℕ). chain (link_of t) j (first_of t)) n))
      ∙ length-append (take count rows) (rest t count next) ∙ ap (λ (j : ℕ). j + length (rest t count next)) k

  -- the chain has not as many rows as are used
  miscounted : (length (whole t) ≡ used_of t → ⊥) → false ≡ (visits_each t && names_rise t)
  unfolding visits_each
  miscounted d = sym (rw (ne_eqb (length (whole t)) (used_of t) d))

  pub walk-short : next ≡ 0 → count < used_of t → false ≡ (visits_each t && names_rise t)
  walk-short e h = miscounted (λ q. omega (arith, lengths, ap length (ended e)))

  pub walk-falls : 1 ≤ next → name_of t next ≤ low → false ≡ (visits_each t && names_rise t)
  unfolding names_rise rises_from
  walk-falls p h =
      let f : names_rise t ≡ false = w.rising ∙ ap (rises_from low (name_of t)) (goes_on p) ∙ rw (le-ltb low (name_of t next) h) in
      sym (rw f (and-false (visits_each t)))

  module _ (e : count ≡ used_of t) where
    pub walk-all : (eqb next 0 && every (used_of t) seen) ≡ (visits_each t && names_rise t)
    unfolding visits_each names_rise among rises_from
    walk-all = go (dec_le 1 next)
      where
        go : Dec (1 ≤ next) → (eqb next 0 && every (used_of t) seen) ≡ (visits_each t && names_rise t)
        go (yes p) = rw (ne_eqb next 0 (λ q. omega arith)) (miscounted (λ q. omega (arith, lengths, ap length (goes_on p))))
        go (no p) =
            let z : next ≡ 0 = omega arith in
            let n : length (whole t) ≡ used_of t = omega (arith, lengths, ap length (ended z)) in
            let m : among (whole t) ≡ seen = w.members ∙ fun_ext (λ i. ap (λ (xs : List ℕ). seen i || among xs i) (ended z) ∙ or-false (seen i)) in
            let r : rises_from 0 (name_of t) (whole t) ≡ true = w.rising ∙ ap (rises_from low (name_of t)) (ended z) in
            rw (eq-eqb next 0 z, eq-eqb (length (whole t)) (used_of t) n, m, r) (sym (and-true (every (used_of t) seen)))

    -- the rows passed are the order
    pub walk-order : Ordered t rows
    unfolding order_of chain
    walk-order = record {
      listed = subst (Listed (used_of t) rows) e w.listed;
      order =
          let n : count + 0 ≡ used_of t = omega arith in
          ap (λ (k : ℕ). take k rows) (sym e) ∙ sym (append-nil (take count rows)) ∙ w.path 0 ∙ ap (λ (k : ℕ). chain (link_of t) k (first_of t)) n;
    }

-- ---- what question 1 leaves in the array
module _ (t rows : List ℕ) where
  pub left-unsized : (header_values t && length_right t) ≡ false → rows ≡ order_left t rows
  unfolding order_left
  left-unsized e = rw e

  pub left-former : (form_of t ≡ form_value → ⊥) → rows ≡ order_left t rows
  unfolding order_left
  left-former d = rw (ne_eqb (form_of t) form_value d, and-false (header_values t && length_right t))

  pub left-wrong : every (used_of t) (row_right t) ≡ false → rows ≡ order_left t rows
  unfolding order_left
  left-wrong e = rw (e, and-false (header_values t && length_right t && eqb (form_of t) form_value))

  pub left-linked : Linked t → form_of t ≡ form_value → walked_into t rows ≡ order_left t rows
  unfolding order_left
  left-linked l e = rw (l.sized.header, l.sized.bytes, eq-eqb (form_of t) form_value e, l.rows)
