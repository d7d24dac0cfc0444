-- What is said, piece by piece, over plain variables.
use mathlib.Core.Path.{◌≡◌, refl, sym, ◌∙◌, ap}
use mathlib.Core.Logic.{◌⊎◌, inl, inr}
use mathlib.Core.List.{List, ◌++◌, append_assoc}
use Prim.Native.Nat.{ℕ, ◌+◌, ◌-◌, ◌≤◌, ◌<◌}
use native.Mathlib.Nat.{zero-add}
use native.Mathlib.Decide.{ℕ_discrete, dec_lt}
use native.Mathlib.Omega.{arith}
use borrow.Author.Tests.{ne_eqb}
use lib.ListN.{length, get_or, take, drop, length-append, get_or-append, get_or-replicate}
use lib.Seq.{take_all, get_or-append-add}
use Rattle.octets.specs.Bytes.{put}
use Rattle.octets.proofs.ByteLaws.{put-more}
use Rattle.telling.specs.Text.{in_bytes, decimal, spaces, padded, last_of}
use Rattle.telling.specs.Notices.{word, shows_name, shown_name, reason, heading, sentence}
use Rattle.telling.proofs.TextLaws.{length-padded, length-spaces, drop-spaces}
use Rattle.telling.proofs.NoticeLaws.{length-heading, sentence-length}
use Rattle.notices.specs.Ends.{Ends}

-- ---- a text with spaces behind it ends where it says
module _ (m n : ℕ) (text s : List ℕ) (is : text ≡ padded m s) where
  long : length text ≡ length s + (m - length s)
  unfolding padded
  long = ap length is ∙ length-append s _ ∙ ap (λ (k : ℕ). length s + k) (length-spaces (m - length s))

  front : (i : ℕ) → i < length s → get_or text i 0 ≡ get_or s i 0
  unfolding padded
  front i h = ap (λ (l : List ℕ). get_or l i 0) is ∙ get_or-append s _ 0 i h

  back : (i : ℕ) → length s ≤ i → i < length text → get_or text i 0 ≡ 32
  unfolding padded spaces
  back i l h =
      let e : i ≡ length s + (i - length s) = omega arith in
      ap (λ (l : List ℕ). get_or l i 0) is ∙ ap (λ (k : ℕ). get_or (s ++ spaces (m - length s)) k 0) e
      ∙ get_or-append-add s (spaces (m - length s)) (i - length s) 0 ∙ get_or-replicate (m - length s) (i - length s) 32 0 (omega (arith, long))

  pub ends_at : Ends text n → (last_of s ≡ 32 → ⊥) → n ≡ length s
  unfolding last_of
  ends_at ends so = go (dec_lt n (length s)) (dec_lt (length s) n)
    where
      go : Dec (n < length s) → Dec (length s < n) → n ≡ length s
      go (yes h) _ = absurd (so (sym (front (length s - 1) (omega arith)) ∙ ends.behind (length s - 1) (omega arith) (omega (arith, long))))
      go (no h) (yes g) = absurd (ends.last (omega arith) (back (n - 1) (omega arith) (omega (arith, ends.within))))
      go (no h) (no g) = omega arith

-- all bytes of an array that a text was padded to
pub whole : (n : ℕ) (s xs : List ℕ) → length s ≤ n → xs ≡ padded n s → take n xs ≡ padded n s
whole n s xs h e = ap (take n) e ∙ take_all n (padded n s) (omega (arith, length-padded n s h))

-- ---- the name that a call shows
module _ (call name : ℕ) where
  pub one-shown : (call ≡ 2) ⊎ (call ≡ 3) ⊎ (call ≡ 5) ⊎ (call ≡ 7) → name ≡ shown_name call name
  unfolding shown_name shows_name
  one-shown (inl e) = rw e
  one-shown (inr (inl e)) = rw e
  one-shown (inr (inr (inl e))) = rw e
  one-shown (inr (inr (inr e))) = rw e

  -- 2 and 3 are a range of the match
  pub range-shown : 2 ≤ call → call < 4 → name ≡ shown_name call name
  range-shown l h = go (ℕ_discrete call 2)
    where
      go : Dec (call ≡ 2) → name ≡ shown_name call name
      go (yes e) = one-shown (inl e)
      go (no d) = one-shown (inr (inl (omega arith)))

  pub none-shown : (call ≡ 2 → ⊥) → (call ≡ 3 → ⊥) → (call ≡ 5 → ⊥) → (call ≡ 7 → ⊥) → 0 ≡ shown_name call name
  unfolding shown_name shows_name
  none-shown a b c d = rw (ne_eqb call 2 a, ne_eqb call 3 b, ne_eqb call 5 c, ne_eqb call 7 d)

-- ---- the pieces one behind the other
-- zeros in the text of a heading, and figures put over them
pub heading-is : (call name number : ℕ) (xs : List ℕ)
    → put 33 (decimal 10 number) (put 19 (decimal 5 name) (put 5 (decimal 2 call) (put 0 (in_bytes "Call 00 by machine 00000, number 0000000000: ") xs)))
    ≡ put 0 (heading call name number) xs
unfolding put heading in_bytes decimal
heading-is call name number xs = refl

put-spaces : (n : ℕ) (s : List ℕ) → put 0 s (spaces n) ≡ padded n s
unfolding put padded
put-spaces n s = ap (λ (l : List ℕ). s ++ l) (ap (λ (k : ℕ). drop k (spaces n)) (zero-add (length s)) ∙ drop-spaces n (length s))

pieces : (h w r : List ℕ) → put (length h + length w) r (put (length h) w (put 0 h (spaces 160))) ≡ padded 160 (h ++ (w ++ r))
pieces h w r =
    rw (put-more h w (spaces 160), ← length-append h w, put-more (h ++ w) r (spaces 160), append_assoc h w r) (put-spaces 160 (h ++ (w ++ r)))

-- heading, word and reason put into spaces are the sentence
module _ (call name number : ℕ) where
  abbrev w : List ℕ
  w = in_bytes (word call)

  abbrev r : List ℕ
  r = in_bytes (reason number)

  pub told-by : {blank headed worded all : List ℕ} {shown behind end : ℕ} → blank ≡ spaces 160 → shown ≡ shown_name call name → headed ≡ put 0 (heading call shown number) blank
      → (behind ≡ 45 + length w) × (worded ≡ put 45 w headed) → (end ≡ behind + length r) × (all ≡ put behind r worded)
      → (end ≡ length (sentence call name number)) × (all ≡ padded 160 (sentence call name number))
  unfolding sentence
  told-by b v h x y =
      let long = length-heading call (shown_name call name) number in
      (omega (arith, sentence-length call name number, x.0, y.0), y.1 ∙ rw (x.1, x.0, h, v, b, ← long) (pieces (heading call (shown_name call name) number) w r))
