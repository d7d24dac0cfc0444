-- What is computed: whole notices, and one test over all wordings for each fact about them.
use mathlib.Core.Path.{◌≡◌, refl, sym, ◌∙◌}
use mathlib.Core.Bool.{Bool, true, false, not, ◌||◌}
use mathlib.Core.Logic.{◌⊎◌, ⊎_elim, inl, inr}
use Prim.Native.Nat.{ℕ, suc, ◌-◌, ◌≤◌, ◌<◌}
use Prim.Native.String.{String}
use native.Mathlib.Decide.{dec_le}
use native.Mathlib.Omega.{arith}
use borrow.Author.Tests.{leb-true, eqb-true, eqb-false, not-true}
use lib.Dec.{T, eqb, leb}
use lib.ListN.{length, get_or-eq_default}
use lib.Text.{eqt, eqt_refl}
use Rattle.bools.proofs.BoolLaws.{or-e, clash}
use Rattle.sets.specs.Upto.{every}
use Rattle.sets.proofs.UptoLaws.{every-at}
use Rattle.octets.specs.Bytes.{part}
use Rattle.asking.specs.Asking.{first_no}
use Rattle.telling.specs.Text.{in_bytes, decimal, shown, spaces, padded, last_of}
use Rattle.telling.specs.Notices.{words, word, shows_name, shown_name, no_reason, reasons, reason, heading, sentence, figures_in, in_papers, notice_questions, noticed}
use Rattle.telling.specs.Claims.{NamesShown, OwnReasons, OthersHaveNone, SentencesShown, NoticesShown, RefusalsShown}

-- ---- whole sentences, notices and refusals
pub sentences-shown : SentencesShown
unfolding SentencesShown sentence heading shows_name shown_name words word reasons reason no_reason in_bytes decimal
sentences-shown = (refl, refl, refl, refl, refl)

pub notices-shown : NoticesShown
unfolding NoticesShown noticed notice_questions in_papers first_no sentence heading shows_name shown_name words word reasons reason no_reason in_bytes decimal spaces padded figures_in shown part
notices-shown = (refl, refl, refl)

pub refusals-shown : RefusalsShown
unfolding RefusalsShown noticed notice_questions in_papers first_no
refusals-shown = (refl, refl, refl, refl, refl, refl, refl)

pub names-shown : NamesShown
unfolding NamesShown shows_name shown_name
names-shown name = (refl, refl, refl, refl, refl, refl, refl, refl, refl, refl)

-- ---- words and reasons: only as many numbers as are listed have one of their own
pub others-have-none : OthersHaveNone
unfolding OthersHaveNone reason reasons
others-have-none n (inl e) = rw e
others-have-none n (inr h) = get_or-eq_default reasons no_reason h

pub no_word : (call : ℕ) → 10 < call → word call ≡ ""
unfolding word words
no_word call h = get_or-eq_default words "" h

-- what a test finds of the texts of 0 to m it finds of all, where every other number has the text of 0
each-passes : (test : String → Bool) (m : ℕ) (text : ℕ → String) → ((n : ℕ) → m < n → text n ≡ text 0) → every (suc m) (λ k. test (text (k - 1))) ≡ true
    → (n : ℕ) → test (text n) ≡ true
each-passes test m text others all n = go (dec_le n m)
  where
    listed : (k : ℕ) → k ≤ m → test (text k) ≡ true
    listed k h = let z : suc k - 1 ≡ k = omega arith in rw z at (every-at (suc m) _ all (suc k) (omega arith))

    go : Dec (n ≤ m) → test (text n) ≡ true
    go (yes h) = listed n h
    go (no h) = rw (others n (omega arith)) (listed 0 (omega arith))

module _ (test : String → Bool) where
  each-reason : every 21 (λ k. test (reason (k - 1))) ≡ true → (n : ℕ) → test (reason n) ≡ true
  unfolding OthersHaveNone reason reasons
  each-reason = each-passes test 20 reason (λ n h. others-have-none n (inr h))

  each_word : every 11 (λ k. test (word (k - 1))) ≡ true → (n : ℕ) → test (word n) ≡ true
  unfolding word words
  each_word = each-passes test 10 word no_word

-- a reason has room behind the longest word, and a full stop ends it
reasons-room : every 21 (λ k. leb (length (in_bytes (reason (k - 1)))) 107) ≡ true
unfolding every in_bytes reason reasons no_reason
reasons-room = refl

pub reason-room : (n : ℕ) → length (in_bytes (reason n)) ≤ 107
reason-room n = leb-true _ 107 (each-reason (λ s. leb (length (in_bytes s)) 107) reasons-room n)

reasons-stop : every 21 (λ k. eqb (last_of (in_bytes (reason (k - 1)))) 46) ≡ true
unfolding every in_bytes last_of reason reasons no_reason
reasons-stop = refl

pub reason-stop : (n : ℕ) → last_of (in_bytes (reason n)) ≡ 46
reason-stop n = eqb-true _ 46 (each-reason (λ s. eqb (last_of (in_bytes s)) 46) reasons-stop n)

words-room : every 11 (λ k. leb (length (in_bytes (word (k - 1)))) 8) ≡ true
unfolding every in_bytes word words
words-room = refl

pub word_room : (n : ℕ) → length (in_bytes (word n)) ≤ 8
word_room n = leb-true _ 8 (each_word (λ s. leb (length (in_bytes s)) 8) words-room n)

-- no word ends in a space
words_last : every 11 (λ k. not (eqb (last_of (in_bytes (word (k - 1)))) 32)) ≡ true
unfolding every in_bytes last_of word words
words_last = refl

pub word-last : (n : ℕ) → last_of (in_bytes (word n)) ≡ 32 → ⊥
word-last n = eqb-false _ 32 (not-true _ (each_word (λ s. not (eqb (last_of (in_bytes s)) 32)) words_last n))

-- ---- no two numbers have one reason
differ : every 20 (λ m. every 21 (λ k. eqb (k - 1) m || not (eqt (reason (k - 1)) (reason m)))) ≡ true
unfolding every reason reasons no_reason
differ = refl

same_text : (s : String) → not (eqt s s) ≡ false
same_text s = go (eqt s s) (eqt_refl s)
  where
    go : (b : Bool) → T b → not b ≡ false
    go true h = refl
    go false h = absurd h

pub own-reasons : OwnReasons
unfolding OwnReasons OthersHaveNone reason reasons
own-reasons m n w e = go (dec_le n 20)
  where
    -- the test of a number up to 20 that has the reason of m
    listed : (k : ℕ) → k ≤ 20 → reason k ≡ reason m → k ≡ m
    listed k h same =
        let z : suc k - 1 ≡ k = omega arith in
        let r : (eqb k m || not (eqt (reason k) (reason m))) ≡ true = rw z at (every-at 21 _ (every-at 20 _ differ m w) (suc k) (omega arith)) in
        eqb-true k m (⊎_elim (λ (a : eqb k m ≡ true). a) (λ b. absurd (clash (rw (same, same_text (reason m)) at b))) (or-e (eqb k m) _ r))

    go : Dec (n ≤ 20) → n ≡ m
    go (yes h) = listed n h e
    go (no h) = absurd (omega (arith, listed 0 (omega arith) (sym (others-have-none n (inr (omega arith))) ∙ e)))
