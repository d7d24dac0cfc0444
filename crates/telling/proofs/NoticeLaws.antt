-- What a sentence tells and where it ends; the call by the answers to its questions.
use mathlib.Core.Path.{◌≡◌, refl, ◌∙◌}
use mathlib.Core.Bool.{Bool, true, false, cond}
use mathlib.Core.List.{List}
use Prim.Native.Nat.{ℕ, ◌+◌, ◌≤◌, ◌<◌}
use native.Mathlib.Omega.{arith}
use lib.Dec.{eqb}
use lib.ListN.{length, length-append}
use borrow.Author.Tests.{eq-eqb, ne_eqb, eqb-true, eqb-false, le-leb}
use Rattle.sets.specs.Upto.{Within}
use Rattle.octets.specs.Bytes.{part}
use Rattle.asking.specs.Asking.{first_no}
use Rattle.telling.specs.Text.{in_bytes, decimal, padded, last_of}
use Rattle.telling.specs.Notices.{word, shows_name, shown_name, reason, heading, sentence, figures_in, in_papers, notice_questions, Noticed, noticed}
use Rattle.telling.specs.Claims.{ReadsOff, SentenceFits, SentenceTold, RefusalLeaves}
use Rattle.telling.proofs.TextLaws.{shown-decimal, length-padded, take-padded, drop-padded, has_last, last-behind}
use Rattle.telling.proofs.Computed.{reason-room, reason-stop, word_room}

-- ---- each way out
module _ (call name number : ℕ) (buffer : List ℕ) where
  abbrev pub refused_by : ℕ → Noticed
  refused_by n = record { refusal = n; value = 0; buffer = buffer }

  abbrev pub told : Noticed
  told = record { refusal = 0; value = length (sentence call name number); buffer = padded 160 (sentence call name number) }

  pub noticed-4 : in_papers call ≡ false → noticed call name number buffer ≡ refused_by 4
  unfolding noticed notice_questions first_no
  noticed-4 e = rw e

  pub noticed-5 : in_papers call ≡ true → (length buffer ≡ 160 → ⊥) → noticed call name number buffer ≡ refused_by 5
  unfolding noticed notice_questions first_no
  noticed-5 e d = rw (e, ne_eqb (length buffer) 160 d)

  pub noticed-told : in_papers call ≡ true → length buffer ≡ 160 → noticed call name number buffer ≡ told
  unfolding noticed notice_questions first_no
  noticed-told e l = rw (e, eq-eqb (length buffer) 160 l)

pub in-papers : (call : ℕ) → Within 10 call → in_papers call ≡ true
unfolding in_papers
in-papers call w = rw (le-leb 1 call w.0, le-leb call 10 w.1)

pub refusal-leaves : RefusalLeaves
unfolding RefusalLeaves
refusal-leaves call name number buffer = go (in_papers call) refl (eqb (length buffer) 160) refl
  where
    go : (a : Bool) → in_papers call ≡ a → (b : Bool) → eqb (length buffer) 160 ≡ b → 1 ≤ (noticed call name number buffer).refusal
        → ((noticed call name number buffer).value ≡ 0) × ((noticed call name number buffer).buffer ≡ buffer)
    go false e b f = rw (noticed-4 call name number buffer e) (λ h. (refl, refl))
    go true e false f = rw (noticed-5 call name number buffer e (eqb-false _ 160 f)) (λ h. (refl, refl))
    go true e true f = rw (noticed-told call name number buffer e (eqb-true _ 160 f)) (λ h. absurd (omega arith))

-- ---- the figures stand at their places, whatever is behind them
module _ (call name number : ℕ) where
  figures-back : call < 100 → shown_name call name < 100_000 → number < 10_000_000_000
      → figures_in (padded 160 (sentence call name number)) ≡ record { call = call; name = shown_name call name; number = number }
  unfolding figures_in padded sentence heading part in_bytes decimal
  figures-back c a n = λ i. record { call = shown-decimal 2 call c i; name = shown-decimal 5 (shown_name call name) a i; number = shown-decimal 10 number n i }

  name-small : name < 65_536 → shown_name call name < 65_536
  unfolding shown_name
  name-small h = go (shows_name call)
    where
      go : (b : Bool) → cond b name 0 < 65_536
      go true = h
      go false = omega arith

pub reads-off : ReadsOff
unfolding ReadsOff
reads-off call name number buffer w a n l =
    let small = name-small call name number a in
    rw (noticed-told call name number buffer (in-papers call w) l) (figures-back call name number (omega arith) (omega arith) (omega arith))

-- ---- the sentence has room, and a full stop ends it
pub length-heading : (call name number : ℕ) → length (heading call name number) ≡ 45
unfolding heading in_bytes decimal
length-heading call name number = refl

module _ (call name number : ℕ) where
  pub sentence-length : length (sentence call name number) ≡ 45 + length (in_bytes (word call)) + length (in_bytes (reason number))
  unfolding sentence
  sentence-length =
      length-append (heading call (shown_name call name) number) _
      ∙ omega (arith, length-heading call (shown_name call name) number, length-append (in_bytes (word call)) (in_bytes (reason number)))

  -- its last byte is that of the reason
  pub sentence-stop : last_of (sentence call name number) ≡ 46
  unfolding sentence
  sentence-stop =
      let stop = reason-stop number in
      let some = has_last (in_bytes (reason number)) (λ z. omega arith) in
      last-behind (heading call (shown_name call name) number) _ (omega (arith, length-append (in_bytes (word call)) (in_bytes (reason number))))
      ∙ last-behind (in_bytes (word call)) (in_bytes (reason number)) some ∙ stop

pub sentence-fits : SentenceFits
unfolding SentenceFits
sentence-fits call name number = omega (arith, sentence-length call name number, word_room call, reason-room number)

pub sentence-told : SentenceTold
unfolding SentenceTold SentenceFits
sentence-told call name number buffer w l =
    let s = sentence call name number in
    rw (noticed-told call name number buffer (in-papers call w) l) (record {
      done = refl;
      value = refl;
      long = length-padded 160 s (sentence-fits call name number);
      text = take-padded 160 s;
      rest = drop-padded 160 s;
      stop = sentence-stop call name number;
    })
