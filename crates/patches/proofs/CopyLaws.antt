-- A copy whose window was changed by the code.
use mathlib.Core.Path.{◌≡◌, sym, ◌∙◌, ap, ap₂}
use mathlib.Core.Bool.{true}
use mathlib.Core.List.{List, ◌++◌}
use Prim.Native.Nat.{ℕ, zero, suc, ◌+◌, ◌-◌, ◌≤◌}
use native.Mathlib.Omega.{arith}
use lib.ListN.{length, take, drop, length-take, length-drop}
use lib.Seq.{drop-drop, take_all}
use borrow.Author.Tests.{le-leb, eq-eqb}
use Rattle.sets.specs.Upto.{Within}
use Rattle.octets.specs.Bytes.{number, bytes_of, part, put, zeros, all_zero}
use Rattle.octets.proofs.ByteLaws.{bytes-zero, length-zeros, zeros-are, length_part, put_same}
use Rattle.octets.proofs.CodeLaws.{zero_number}
use Rattle.blocks.specs.Blocks.{block, with_block}
use Rattle.blocks.proofs.BlockLaws.{length-stays, length-block}
use Rattle.fields.specs.Layout.{get, store, oldest, records, store_records}
use Rattle.fields.proofs.FieldLaws.{length-store, records-store}
use Rattle.window.specs.Windows.{Window, Patch, places, width, younger, record_with, emptied, added, window_of, store_window}
use Rattle.window.proofs.PatchLaws.{record-long, relinked-long}
use Rattle.window.proofs.CopyLaws.{window-whole}
use Rattle.windows.specs.Visits.{window, RightFor}
use Rattle.windows.proofs.HeadLaws.{by-none}
use Rattle.patches.specs.Places.{Placed}

-- the last bytes lent and back in their place
pub tail-back : (xs ys : List ℕ) (a : ℕ) → a ≤ length xs → length ys ≡ length xs - a → take a xs ++ (ys ++ drop (length xs - a) (drop a xs)) ≡ put a ys xs
unfolding put
tail-back xs ys a h n = let e : a + (length xs - a) ≡ a + length ys = omega arith in ap (λ (l : List ℕ). take a xs ++ (ys ++ l)) (drop-drop (length xs - a) a xs ∙ ap (λ (k : ℕ). drop k xs) e)

-- the window as the code cuts it
pub cut-window : (copy cut : List ℕ) (o : ℕ) → o ≡ get oldest copy → cut ≡ drop (length copy - 576) copy → window o cut ≡ window_of copy
unfolding window window_of records
cut-window copy cut o e q = λ i. record { oldest = e i; records = q i }

pub cut-long : (copy : List ℕ) → 588 ≤ length copy → length (take (length copy - (length copy - 576)) (drop (length copy - 576) copy)) ≡ 576
cut-long copy h = omega (arith, length-take (length copy - (length copy - 576)) (drop (length copy - 576) copy), length-drop (length copy - 576) copy)

-- a right window without an oldest record is empty: emptied, the copy stays as it is
pub empty-stays : (copy : List ℕ) → 588 ≤ length copy → (file : ℕ) × RightFor file (window_of copy) → get oldest copy ≡ 0 → copy ≡ store_window emptied copy
unfolding store_window store_records store get oldest window_of window emptied places width part records
empty-stays copy long (file, right) z =
    let one : part 1 1 copy ≡ bytes_of 1 0 =
    zeros-are (part 1 1 copy) (sym (zero_number (part 1 1 copy)) ∙ eq-eqb (number (part 1 1 copy)) 0 z) ∙ ap zeros (length_part 1 1 copy (omega arith)) ∙ sym (bytes-zero 1) in
    let same : copy ≡ put 1 (bytes_of 1 0) copy = sym (put_same 1 1 copy (omega arith)) ∙ ap (λ (p : List ℕ). put 1 p copy) one in
    let none : all_zero (records copy) ≡ true = by-none file right.version (get oldest copy) (records copy) z ∙ right.right in
    let rest : part (length copy - 576) 576 copy ≡ zeros 576 =
    take_all 576 (records copy) (omega (arith, window-whole copy long)) ∙ zeros-are (records copy) none ∙ ap zeros (window-whole copy long) in
    sym (put_same (length copy - 576) 576 copy (omega arith)) ∙ ap₂ (λ (p c : List ℕ). put (length c - 576) p c) rest same

module _ (copy new : List ℕ) (v : ℕ) (long : 588 ≤ length copy) (e : new ≡ store oldest v copy) where
  same-long : length new ≡ length copy
  unfolding oldest
  same-long = ap length e ∙ length-store oldest v copy (omega arith)

  pub cleared : v ≡ 0 → (ys : List ℕ) → ys ≡ bytes_of (length (take (length new - (length new - 576)) (drop (length new - 576) new))) 0
      → take (length new - 576) new ++ (ys ++ drop (length new - (length new - 576)) (drop (length new - 576) new)) ≡ store_window emptied copy
  unfolding store_window store_records emptied places width
  cleared z ys q =
      let y : ys ≡ zeros 576 = q ∙ ap (λ (n : ℕ). bytes_of n 0) (cut-long new (omega (arith, same-long))) ∙ bytes-zero 576 in
      tail-back new ys (length new - 576) (omega arith) (ap length y ∙ length-zeros 576 ∙ omega (arith, same-long))
      ∙ ap₂ (λ (r p : List ℕ). put (length r - 576) p r) (e ∙ ap (λ (k : ℕ). store oldest k copy) z) y

  -- the records of the copy, whatever its oldest index
  cut-is : take (length new - (length copy - 576)) (drop (length copy - 576) new) ≡ records copy
  unfolding records oldest
  cut-is =
      let n : length new - (length copy - 576) ≡ length (drop (length copy - 576) new) = omega (arith, same-long, length-drop (length copy - 576) new) in
      take_all (length new - (length copy - 576)) (drop (length copy - 576) new) (omega (arith, n)) ∙ ap (λ (k : ℕ). drop (k - 576) new) (sym same-long)
      ∙ ap records e ∙ records-store oldest v copy (omega arith) (omega arith) long

  records-long : length (records copy) ≡ 576
  unfolding records
  records-long = omega (arith, length-drop (length copy - 576) copy)

  module _ (p : Patch) (small : length p.bytes ≤ 32) (x l : ℕ) (place : Placed (window_of copy) x l v) where
    linked_long : length (with_block 0 36 l (store younger x) (records copy)) ≡ 576
    unfolding with_block width
    linked_long = go l place.few
      where
        go : (l : ℕ) → l ≤ 16 → length (with_block 0 36 l (store younger x) (records copy)) ≡ 576
        go zero h = records-long
        go (suc k) h =
            length-stays 0 36 (records copy) k (omega (arith, records-long)) (store younger x)
            (relinked-long x (block 0 36 (suc k) (records copy)) (length-block 0 36 (records copy) 16 (omega (arith, records-long)) (suc k) (omega arith))) ∙ records-long

    entered-long : length (with_block 0 36 x (λ y. record_with p) (with_block 0 36 l (store younger x) (records copy))) ≡ 576
    unfolding width
    entered-long = go x place.within
      where
        u : List ℕ
        u = with_block 0 36 l (store younger x) (records copy)

        go : (x : ℕ) → Within 16 x → length (with_block 0 36 x (λ y. record_with p) u) ≡ 576
        go zero h = absurd (omega arith)
        go (suc k) h = length-stays 0 36 u k (omega (arith, linked_long)) (λ y. record_with p) (record-long p small) ∙ linked_long

    window-is : window v (with_block 0 36 x (λ y. record_with p) (with_block 0 36 l (store younger x) (records copy))) ≡ added p (window_of copy)
    unfolding window added window_of width
    window-is = rw (le-leb (length p.bytes) 32 small) (λ i. record {
      oldest = place.starts i;
      records = ap₂ (λ (a b : ℕ). with_block 0 36 a (λ y. record_with p) (with_block 0 36 b (store younger a) (records copy))) place.takes place.behind i;
    })

    pub took_in : (ys : List ℕ) → ys ≡ with_block 0 36 x (λ y. record_with p) (with_block 0 36 l (store younger x) (take (length new - (length copy - 576)) (drop (length copy - 576) new)))
        → take (length copy - 576) new ++ (ys ++ drop (length new - (length copy - 576)) (drop (length copy - 576) new)) ≡ store_window (added p (window_of copy)) copy
    unfolding store_window store_records window
    took_in ys q =
        let y : ys ≡ with_block 0 36 x (λ y. record_with p) (with_block 0 36 l (store younger x) (records copy)) = q ∙ ap (λ (r : List ℕ). with_block 0 36 x (λ y. record_with p) (with_block 0 36 l (store younger x) r)) cut-is in
        tail-back new ys (length copy - 576) (omega (arith, same-long)) (ap length y ∙ entered-long ∙ omega (arith, same-long))
        ∙ ap₂ (λ (k : ℕ) (r : List ℕ). put (k - 576) r new) (sym same-long) y
        ∙ ap (λ (r : List ℕ). put (length r - 576) (with_block 0 36 x (λ y. record_with p) (with_block 0 36 l (store younger x) (records copy))) r) e
        ∙ ap (λ (w : Window). put (length (store oldest w.oldest copy) - 576) w.records (store oldest w.oldest copy)) window-is
