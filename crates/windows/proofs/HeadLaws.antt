-- The records before the first one whose head is not right: in a right window they are those in use. Each way out of the test of a window.
use mathlib.Core.Path.{◌≡◌, refl, sym, ◌∙◌, ap}
use mathlib.Core.Bool.{Bool, true, false, cond, not, ◌&&◌, and-true}
use mathlib.Core.List.{List}
use Prim.Native.Nat.{ℕ, zero, suc, ◌+◌, ◌-◌, ◌*◌, ◌≤◌, ◌<◌}
use native.Mathlib.Decide.{dec_lt}
use native.Mathlib.Omega.{arith}
use lib.Dec.{eqb, leb}
use lib.ListN.{length, drop}
use borrow.Author.Tests.{leb-true, le-leb, eqb-true, eq-eqb}
use Rattle.bools.proofs.BoolLaws.{and_l, and_r, and_i, and_assoc, clash, same_test}
use Rattle.sets.specs.Upto.{Within, every, count, among}
use Rattle.sets.proofs.UptoLaws.{every-at, every_of}
use Rattle.octets.specs.Bytes.{number, part, all_zero}
use Rattle.octets.proofs.ByteLaws.{part-part}
use Rattle.blocks.specs.Blocks.{block}
use Rattle.fields.specs.Layout.{get}
use Rattle.linking.specs.Linking.{chain}
use Rattle.linking.proofs.PathLaws.{chain-suc}
use Rattle.window.specs.Windows.{places, width, younger, size, start, record_of, next, path, record_right, window_right}
use Rattle.window.proofs.PatchLaws.{zero-size}
use Rattle.window.proofs.RightLaws.{Right, right_is, is_right, record-long, zero-behind}
use Rattle.windows.specs.Visits.{window, visits, broken, head_right, tail_zero, Leads}

-- a field of record x, as the code reads it
pub field_at : (records : List ℕ) (x a n : ℕ) → 1 ≤ x → a + n ≤ 36 → number (part ((x - 1) * 36 + a) n records) ≡ number (part a n (block 0 36 x records))
unfolding block
field_at records zero a n h g = absurd (omega arith)
field_at records (suc k) a n h g = let z : (suc k - 1) * 36 ≡ 0 + k * 36 = omega arith in rw z (ap number (sym (part-part (0 + k * 36) 36 a n records g)))

pub record_is : (file : ℕ) (r : List ℕ) → record_right file r ≡ (head_right file r && tail_zero r)
unfolding record_right head_right tail_zero
record_is file r =
    let a = leb 1 (get size r) in
    let b = leb (get size r) 32 in
    let c = leb (get start r + get size r) file in
    let d = all_zero (drop (4 + get size r) r) in
    sym (and_assoc (a && b) c d ∙ and_assoc a b (c && d))

refuted : (b : Bool) → (b ≡ true → ⊥) → false ≡ b
refuted true f = absurd (f refl)
refuted false f = refl

pub by-none : (file version oldest : ℕ) (records : List ℕ) → oldest ≡ 0 → all_zero records ≡ window_right file version (window oldest records)
unfolding window_right window path chain places width every
by-none file version oldest records z = rw (z, le-leb 0 version (omega arith)) (sym (and-true (all_zero records)))

path-starts : (oldest : ℕ) (records : List ℕ) → 1 ≤ oldest → 1 ≤ length (path (window oldest records))
unfolding path window
path-starts oldest records h = rw (chain-suc (next (window oldest records)) 16 oldest h) (omega arith)

module _ (file version oldest k : ℕ) (records : List ℕ) (long : length records ≡ 576) (lead : Leads (λ x. head_right file (block 0 36 x records)) k) where
  -- what a right window says of record x
  module _ (e : window_right file version (window oldest records) ≡ true) where
    r : Right file version (window oldest records)
    r = right_is file version (window oldest records) e

    head_of : (x : ℕ) → Within (length (path (window oldest records))) x → head_right file (block 0 36 x records) ≡ true
    unfolding record_of width window
    head_of x v = and_l _ (tail_zero (block 0 36 x records)) (sym (record_is file (block 0 36 x records)) ∙ r.used x v)

    no-head : (x : ℕ) → length (path (window oldest records)) < x → x ≤ 16 → head_right file (block 0 36 x records) ≡ true → ⊥
    unfolding head_right record_of width window
    no-head x h g t = omega (arith, leb-true 1 (get size (block 0 36 x records)) (and_l _ _ (and_l _ _ t)), zero-size (block 0 36 x records) (record-long (window oldest records) long x (omega arith)) (zero-behind _ records r.rest x h))

    count-is : length (path (window oldest records)) ≡ k
    count-is = go (dec_lt (length (path (window oldest records))) k) (dec_lt k (length (path (window oldest records))))
      where
        go : Dec (length (path (window oldest records)) < k) → Dec (k < length (path (window oldest records))) → length (path (window oldest records)) ≡ k
        go (yes h) _ = absurd (no-head (suc (length (path (window oldest records)))) (omega arith) (omega (arith, lead.few)) (every-at k _ lead.each (suc (length (path (window oldest records)))) (omega arith)))
        go (no h) (yes g) = absurd (clash (sym (lead.ends (omega (arith, r.few))) ∙ head_of (suc k) (omega arith)))
        go (no h) (no g) = omega arith

  -- ---- the ways out
  pub by-head : 1 ≤ oldest → k ≡ 0 → false ≡ window_right file version (window oldest records)
  by-head h z = refuted _ (λ e. omega (arith, count-is e, path-starts oldest records h))

  pub by-version : version < k → false ≡ window_right file version (window oldest records)
  by-version h = refuted _ (λ e. omega (arith, count-is e, (r e).young))

  pub by_chain : (visits (window oldest records) && eqb (length (path (window oldest records))) k) ≡ false → false ≡ window_right file version (window oldest records)
  unfolding visits
  by_chain z = refuted _ (λ e.
      let v : (leb (length (path (window oldest records))) 16 && every (length (path (window oldest records))) (among (path (window oldest records)))) ≡ true = and_i (leb (length (path (window oldest records))) 16) _ (le-leb _ 16 (r e).few) (every_of _ _ (r e).each) in
      clash (sym z ∙ rw v (eq-eqb _ k (count-is e))))

  pub by-rest : all_zero (drop (k * 36) records) ≡ false → false ≡ window_right file version (window oldest records)
  unfolding window
  by-rest z = refuted _ (λ e. clash (sym z ∙ ap (λ (n : ℕ). all_zero (drop (n * 36) records)) (sym (count-is e)) ∙ (r e).rest))

  -- all but the zeros behind the patches
  pub by-tails : (visits (window oldest records) && eqb (length (path (window oldest records))) k) ≡ true → k ≤ version → all_zero (drop (k * 36) records) ≡ true
      → every k (λ x. tail_zero (block 0 36 x records)) ≡ window_right file version (window oldest records)
  unfolding visits window record_of width
  by-tails c v z = same_test _ _ (λ t. is_right file version (window oldest records) (made t)) (λ e. every_of k _ (λ x u. and_r (head_right file (block 0 36 x records)) _ (sym (record_is file (block 0 36 x records)) ∙ (r e).used x (rw (count-is e) u))))
    where
      f : (visits (window oldest records) ≡ true) × (length (path (window oldest records)) ≡ k)
      f = (and_l _ (eqb (length (path (window oldest records))) k) c, eqb-true _ k (and_r (visits (window oldest records)) _ c))

      made : every k (λ x. tail_zero (block 0 36 x records)) ≡ true → Right file version (window oldest records)
      made t = record {
        few = omega (arith, f.1, lead.few);
        each = every-at _ _ (and_r (leb (length (path (window oldest records))) 16) _ f.0);
        young = omega (arith, f.1);
        rest = rw f.1 z;
        used = λ x u. record_is file (block 0 36 x records) ∙ and_i (head_right file (block 0 36 x records)) _ (every-at k _ lead.each x (rw (← f.1) u)) (every-at k _ t x (rw (← f.1) u));
      }

-- one record more, and whether it breaks the order
pub breaks-more : (records : List ℕ) (k breaks after more : ℕ) → breaks ≡ count k (broken records) → after ≡ get younger (block 0 36 (k + 1) records) → more ≡ breaks + cond (not (eqb after (k + 1 + 1))) 1 0
    → more ≡ count (k + 1) (broken records)
unfolding count broken
breaks-more records k breaks after more b e m =
    let s : k + 1 ≡ suc k = omega arith in
    let t : k + 1 + 1 ≡ suc (suc k) = omega arith in
    m ∙ rw (e, t, s, b)
