-- Some blocks of a list changed: the length, the head, every other block and what stands behind the blocks stay.
use mathlib.Core.Path.{◌≡◌, refl, sym, ◌∙◌, ap, ap₂, subst}
use mathlib.Core.Bool.{Bool, true, false, cond, or-true, or-false}
use mathlib.Core.Logic.{◌⊎◌, inl, inr, ◌≢◌}
use mathlib.Core.List.{List, [], ◌++◌, append-nil, append_assoc}
use Prim.Native.Nat.{ℕ, zero, suc, ◌+◌, ◌*◌, ◌≤◌, ◌<◌}
use native.Mathlib.Nat.{mul-le-mul_right}
use native.Mathlib.Decide.{dec_lt, ℕ_discrete}
use native.Mathlib.Omega.{arith}
use lib.Dec.{eqb}
use borrow.Author.Tests.{eq-eqb, ne_eqb}
use lib.ListN.{length, take, drop, length-append, take-append-drop}
use lib.Seq.{take-add}
use Rattle.sets.specs.Upto.{Within}
use Rattle.sets.proofs.UptoLaws.{last}
use Rattle.octets.specs.Bytes.{part, zeros}
use Rattle.octets.proofs.ByteLaws.{length_part, part-front, part-back, part-whole, length-put, part-put, part_apart, drop-put-after, split-zeros}
use Rattle.bools.proofs.BoolLaws.{or_l, or_r}
use Rattle.sets.specs.Sets.{no_row, joining}
use Rattle.sets.proofs.MemberLaws.{only}
use Rattle.blocks.specs.Blocks.{block, with_block, with_blocks, in_turn}

-- ---- lists one after another
pub in-turn-ext : (n : ℕ) (b c : ℕ → List ℕ) → ((i : ℕ) → Within n i → b i ≡ c i) → in_turn n b ≡ in_turn n c
unfolding in_turn
in-turn-ext zero b c e = refl
in-turn-ext (suc n) b c e = ap₂ (λ (x y : List ℕ). x ++ y) (in-turn-ext n b c (λ i v. e i (omega arith))) (e (suc n) (omega arith))

pub length-in-turn : (w n : ℕ) (b : ℕ → List ℕ) → ((i : ℕ) → Within n i → length (b i) ≡ w) → length (in_turn n b) ≡ n * w
unfolding in_turn
length-in-turn w zero b l = omega arith
length-in-turn w (suc n) b l = length-append (in_turn n b) (b (suc n)) ∙ omega (arith, length-in-turn w n b (λ i v. l i (omega arith)), l (suc n) (omega arith))

-- first n of them, then k more
pub in-turn-more : (n k : ℕ) (b : ℕ → List ℕ) → in_turn (n + k) b ≡ in_turn n b ++ in_turn k (λ i. b (n + i))
unfolding in_turn
in-turn-more n zero b = let e : n + zero ≡ n = omega arith in ap (λ (m : ℕ). in_turn m b) e ∙ sym (append-nil (in_turn n b))
in-turn-more n (suc k) b =
    let e : n + suc k ≡ suc (n + k) = omega arith in
    ap (λ (m : ℕ). in_turn m b) e
    ∙ ap₂ (λ (x y : List ℕ). x ++ y) (in-turn-more n k b) (ap b (sym e))
    ∙ append_assoc (in_turn n b) (in_turn k (λ i. b (n + i))) (b (n + suc k))

pub in-turn-zeros : (w n : ℕ) → in_turn n (λ i. zeros w) ≡ zeros (n * w)
unfolding in_turn zeros
in-turn-zeros w zero = let z : zero * w ≡ 0 = omega arith in ap zeros (sym z)
in-turn-zeros w (suc n) =
    let e : n * w + w ≡ suc n * w = omega arith in
    ap (λ (x : List ℕ). x ++ zeros w) (in-turn-zeros w n) ∙ sym (split-zeros (n * w) w) ∙ ap zeros e

module _ (a w : ℕ) where
  -- where block suc k ends
  pub ends : (n k : ℕ) → k < n → a + k * w + w ≤ a + n * w
  ends n k h = omega (arith, mul-le-mul_right w h)

  pub length-block : (xs : List ℕ) (n : ℕ) → a + n * w ≤ length xs → (i : ℕ) → Within n i → length (block a w i xs) ≡ w
  unfolding block
  length-block xs n r zero v = absurd (omega arith)
  length-block xs n r (suc k) v = length_part (a + k * w) w xs (omega (arith, ends n k (omega arith)))

  -- there is no block 0
  pub no_block : (f : List ℕ → List ℕ) (xs : List ℕ) → (block a w zero xs ≡ []) × (with_block a w zero f xs ≡ xs)
  unfolding block with_block
  no_block f xs = (refl, refl)

  -- ---- one block, as long after the change as before
  module _ (xs : List ℕ) (k : ℕ) (room : a + suc k * w ≤ length xs) (f : List ℕ → List ℕ) (keeps : length (f (block a w (suc k) xs)) ≡ w) where
    abbrev new : List ℕ
    new = f (block a w (suc k) xs)

    fits : a + k * w + length new ≤ length xs
    fits = omega (arith, keeps)

    pub length-stays : length (with_block a w (suc k) f xs) ≡ length xs
    unfolding with_block
    length-stays = length-put xs (a + k * w) new fits

    pub head-stays : (b m : ℕ) → b + m ≤ a → part b m (with_block a w (suc k) f xs) ≡ part b m xs
    unfolding with_block
    head-stays b m h = part_apart xs (a + k * w) new fits b m (inl (omega arith))

    pub block_same : block a w (suc k) (with_block a w (suc k) f xs) ≡ f (block a w (suc k) xs)
    unfolding with_block block
    block_same =
        subst (λ (m : ℕ). part (a + k * w) m (with_block a w (suc k) f xs) ≡ new) keeps
        (part-put xs (a + k * w) new fits)

    pub block-other : (j : ℕ) → j ≢ suc k → block a w j (with_block a w (suc k) f xs) ≡ block a w j xs
    unfolding with_block block
    block-other zero d = refl
    block-other (suc j) d = part_apart xs (a + k * w) new fits (a + j * w) w (side (dec_lt j k))
      where
        side : Dec (j < k) → (a + j * w + w ≤ a + k * w) ⊎ (a + k * w + length new ≤ a + j * w)
        side (yes q) = inl (ends k j q)
        side (no q) = let l : k ≢ j = λ e. d (ap suc (sym e)) in inr (omega (arith, keeps, ends j k (omega arith)))

    pub tail-stays : (b : ℕ) → a + suc k * w ≤ b → drop b (with_block a w (suc k) f xs) ≡ drop b xs
    unfolding with_block
    tail-stays b h = drop-put-after xs (a + k * w) new fits b (omega (arith, keeps))

  -- ---- ys is xs with block i of s changed by f i, for the blocks 1 to n, and no other byte
  pub record Altered (xs ys : List ℕ) (n : ℕ) (s : ℕ → Bool) (f : ℕ → List ℕ → List ℕ) : Type 0 where
    pub long : length ys ≡ length xs
    pub head : (b m : ℕ) → b + m ≤ a → part b m ys ≡ part b m xs
    pub blocks : (i : ℕ) → Within n i → block a w i ys ≡ cond (s i) (f i (block a w i xs)) (block a w i xs)
    pub tail : (b : ℕ) → a + n * w ≤ b → drop b ys ≡ drop b xs

  -- the blocks behind the n-th stay
  pub behind : {xs ys : List ℕ} {n : ℕ} {s : ℕ → Bool} {f : ℕ → List ℕ → List ℕ} → Altered xs ys n s f → (k : ℕ) → n ≤ k → block a w (suc k) ys ≡ block a w (suc k) xs
  unfolding block part
  behind c k h = ap (take w) (c.tail (a + k * w) (omega (arith, mul-le-mul_right w h)))

  module _ (xs : List ℕ) (s : ℕ → Bool) (f : ℕ → List ℕ → List ℕ) where
    pub blocks-changed : (n : ℕ) → a + n * w ≤ length xs → ((i : ℕ) → Within n i → s i ≡ true → length (f i (block a w i xs)) ≡ w)
        → Altered xs (with_blocks a w s f n xs) n s f
    unfolding with_blocks
    blocks-changed zero r keeps = record { long = refl; head = λ b m h. refl; blocks = λ i v. absurd (omega arith); tail = λ b h. refl }
    blocks-changed (suc n) r keeps = go (s (suc n)) refl (blocks-changed n (omega arith) (λ i v. keeps i (omega arith)))
      where
        u : List ℕ
        u = with_blocks a w s f n xs

        go : (b : Bool) → s (suc n) ≡ b → Altered xs u n s f → Altered xs (cond b (with_block a w (suc n) (f (suc n)) u) u) (suc n) s f
        go false e c = record { long = c.long; head = c.head; blocks = λ i v. at i (last n i v); tail = λ b h. c.tail b (omega arith) }
          where
            at : (i : ℕ) → (i ≡ suc n) ⊎ Within n i → block a w i u ≡ cond (s i) (f i (block a w i xs)) (block a w i xs)
            at i (inl q) = rw (q, e) (behind c n (omega arith))
            at i (inr v) = c.blocks i v
        go true e c = record {
          long = length-stays u n room g same ∙ c.long;
          head = λ b m h. head-stays u n room g same b m h ∙ c.head b m h;
          blocks = λ i v. at i (last n i v);
          tail = λ b h. tail-stays u n room g same b h ∙ c.tail b (omega arith);
        }
          where
            g : List ℕ → List ℕ
            g = f (suc n)

            room : a + suc n * w ≤ length u
            room = omega (arith, c.long)

            old : block a w (suc n) u ≡ block a w (suc n) xs
            old = behind c n (omega arith)

            same : length (g (block a w (suc n) u)) ≡ w
            same = rw old (keeps (suc n) (omega arith) e)

            at : (i : ℕ) → (i ≡ suc n) ⊎ Within n i → block a w i (with_block a w (suc n) g u) ≡ cond (s i) (f i (block a w i xs)) (block a w i xs)
            at i (inl q) = rw (q, e) (block_same u n room g same ∙ ap g old)
            at i (inr v) = block-other u n room g same i (λ z. omega arith) ∙ c.blocks i v

  -- no block changed
  pub none-changed : (f : ℕ → List ℕ → List ℕ) (n : ℕ) (xs : List ℕ) → with_blocks a w no_row f n xs ≡ xs
  unfolding with_blocks no_row
  none-changed f zero xs = refl
  none-changed f (suc n) xs = none-changed f n xs

  -- one block changed
  pub one-changed : (xs : List ℕ) (n k : ℕ) → a + n * w ≤ length xs → k < n → (f : List ℕ → List ℕ) → length (f (block a w (suc k) xs)) ≡ w
      → Altered xs (with_block a w (suc k) f xs) n (eqb (suc k)) (λ i. f)
  one-changed xs n k r h f keeps =
      let fits : a + suc k * w ≤ length xs = omega (arith, ends n k h) in
      record {
        long = length-stays xs k fits f keeps;
        head = head-stays xs k fits f keeps;
        blocks = λ i v. at fits i (ℕ_discrete (suc k) i);
        tail = λ b q. tail-stays xs k fits f keeps b (omega (arith, ends n k h));
      }
    where
      at : a + suc k * w ≤ length xs → (i : ℕ) → Dec (suc k ≡ i) → block a w i (with_block a w (suc k) f xs) ≡ cond (eqb (suc k) i) (f (block a w i xs)) (block a w i xs)
      at fits i (yes e) = rw (eq-eqb (suc k) i e, ← e) (block_same xs k fits f keeps)
      at fits i (no d) = rw (ne_eqb (suc k) i d) (block-other xs k fits f keeps i (λ e. d (sym e)))

  -- ---- a list is its head and its blocks
  pub rebuilt-to : (xs : List ℕ) (n : ℕ) → take (a + n * w) xs ≡ take a xs ++ in_turn n (λ i. block a w i xs)
  unfolding in_turn block part
  rebuilt-to xs zero = let z : a + zero * w ≡ a = omega arith in rw z (sym (append-nil (take a xs)))
  rebuilt-to xs (suc n) =
      let e : a + suc n * w ≡ a + n * w + w = omega arith in
      rw e (take-add (a + n * w) w xs ∙ ap (λ (l : List ℕ). l ++ take w (drop (a + n * w) xs)) (rebuilt-to xs n) ∙ append_assoc (take a xs) (in_turn n (λ i. block a w i xs)) (part (a + n * w) w xs))

  -- the blocks behind a head are those that were put there
  pub block-in-turn : (h : List ℕ) → length h ≡ a → (b : ℕ → List ℕ) (n : ℕ) → ((i : ℕ) → Within n i → length (b i) ≡ w) → (i : ℕ) → Within n i → block a w i (h ++ in_turn n b) ≡ b i
  unfolding in_turn block
  block-in-turn h l b zero each i v = absurd (omega arith)
  block-in-turn h l b (suc n) each i v =
      ap (block a w i) (sym (append_assoc h (in_turn n b) (b (suc n)))) ∙ at i (last n i v) (λ u. block-in-turn h l b n (λ j q. each j (omega arith)) i u)
    where
      front : List ℕ
      front = h ++ in_turn n b

      front_long : length front ≡ a + n * w
      front_long = length-append h (in_turn n b) ∙ omega (arith, l, length-in-turn w n b (λ j q. each j (omega arith)))

      at : (j : ℕ) → (j ≡ suc n) ⊎ Within n j → (Within n j → block a w j front ≡ b j) → block a w j (front ++ b (suc n)) ≡ b j
      at j (inl q) before = rw q (ap (λ (k : ℕ). part k w (front ++ b (suc n))) (omega arith) ∙ part-back (a + n * w) 0 w front (b (suc n)) front_long ∙ part-whole w (b (suc n)) (each (suc n) (omega arith)))
      at zero (inr u) before = absurd (omega arith)
      at (suc k) (inr u) before = part-front (a + k * w) w front (b (suc n)) (omega (arith, front_long, ends n k (omega arith))) ∙ before u

  -- so what is altered alike is equal
  pub alike : {xs ys zs : List ℕ} (n : ℕ) {s : ℕ → Bool} {f : ℕ → List ℕ → List ℕ} → Altered xs ys n s f → Altered xs zs n s f → ys ≡ zs
  unfolding part
  alike {xs} {ys} {zs} n c d = whole ys ∙ ap₂ (λ (x y : List ℕ). x ++ y) start (c.tail (a + n * w) (omega arith) ∙ sym (d.tail (a + n * w) (omega arith))) ∙ sym (whole zs)
    where
      whole : (us : List ℕ) → us ≡ (take a us ++ in_turn n (λ i. block a w i us)) ++ drop (a + n * w) us
      whole us = sym (take-append-drop (a + n * w) us) ∙ ap (λ (l : List ℕ). l ++ drop (a + n * w) us) (rebuilt-to us n)

      start : (take a ys ++ in_turn n (λ i. block a w i ys)) ≡ (take a zs ++ in_turn n (λ i. block a w i zs))
      start = ap₂ (λ (x y : List ℕ). x ++ y) (c.head 0 a (omega arith) ∙ sym (d.head 0 a (omega arith)))
          (in-turn-ext n (λ i. block a w i ys) (λ i. block a w i zs) (λ i v. c.blocks i v ∙ sym (d.blocks i v)))

  -- ---- one block more: block i is changed besides those of p
  module _ (xs : List ℕ) (p : ℕ → Bool) (f : ℕ → List ℕ → List ℕ) (n k : ℕ) (room : a + n * w ≤ length xs) (below : k < n) (new : p (suc k) ≡ false)
      (keeps : (i : ℕ) → Within n i → joining p (only (suc k)) i ≡ true → length (f i (block a w i xs)) ≡ w) where
    pub one_more : with_block a w (suc k) (f (suc k)) (with_blocks a w p f n xs) ≡ with_blocks a w (joining p (only (suc k))) f n xs
    unfolding joining
    one_more = alike n there (blocks-changed xs (joining p (only (suc k))) f n room keeps)
      where
        u : List ℕ
        u = with_blocks a w p f n xs

        c : Altered xs u n p f
        c = blocks-changed xs p f n room (λ i v e. keeps i v (or_l (p i) _ e))

        old : block a w (suc k) u ≡ block a w (suc k) xs
        old = c.blocks (suc k) (omega arith) ∙ rw new

        fits : a + suc k * w ≤ length u
        fits = omega (arith, c.long, ends n k below)

        same : length (f (suc k) (block a w (suc k) u)) ≡ w
        same = rw old (keeps (suc k) (omega arith) (or_r (p (suc k)) _ (eq-eqb (suc k) (suc k) refl)))

        there : Altered xs (with_block a w (suc k) (f (suc k)) u) n (joining p (only (suc k))) f
        there = record {
          long = length-stays u k fits (f (suc k)) same ∙ c.long;
          head = λ b m h. head-stays u k fits (f (suc k)) same b m h ∙ c.head b m h;
          blocks = λ i v. at i v (ℕ_discrete i (suc k));
          tail = λ b h. tail-stays u k fits (f (suc k)) same b (omega (arith, ends n k below)) ∙ c.tail b h;
        }
          where
            at : (i : ℕ) → Within n i → Dec (i ≡ suc k)
                → block a w i (with_block a w (suc k) (f (suc k)) u) ≡ cond (joining p (only (suc k)) i) (f i (block a w i xs)) (block a w i xs)
            at i v (yes e) = rw (e, eq-eqb (suc k) (suc k) refl, or-true (p (suc k))) (block_same u k fits (f (suc k)) same ∙ ap (f (suc k)) old)
            at i v (no d) = rw (ne_eqb i (suc k) d, or-false (p i)) (block-other u k fits (f (suc k)) same i d ∙ c.blocks i v)
