-- What a poll says of a set, as the code finds it.
use mathlib.Core.Path.{◌≡◌, ◌∙◌, ap, ap₂}
use mathlib.Core.Bool.{Bool, not, ◌&&◌}
use Prim.Native.Nat.{ℕ}
use lib.Dec.{eqb, ltb}
use Rattle.bools.proofs.BoolLaws.{not-not}
use Rattle.sets.specs.Upto.{some, most}
use Rattle.sets.specs.Sets.{has, cut_to, left_of}
use Rattle.protocol.specs.Polls.{Poll, unmarked, marked, good_version, good, current}
use Rattle.polls.specs.declared.Poll as code
use Rattle.polls.specs.Shows.{Shows}
use Rattle.places.specs.declared.Top.{Top}
use Rattle.places.specs.Places.{placed, Tops}
use Rattle.verdicts.specs.Judged.{Tallied}

module _ (q : code.Poll) (p : Poll) (shown : Shows q p) (s : ℕ → Bool) where
  unmarked-is : left_of s (has q.stale.bits) ≡ unmarked p s
  unfolding left_of unmarked
  unmarked-is = ap {B = ℕ → Bool} (λ (m : ℕ → Bool) (i : ℕ). s i && not (m i)) shown.stale

  marked-is : cut_to s (has q.stale.bits) ≡ marked p s
  unfolding cut_to marked
  marked-is = ap {B = ℕ → Bool} (λ (m : ℕ → Bool) (i : ℕ). s i && m i) shown.stale

  -- the best of the unmarked rows are the good rows
  module _ (u : ℕ → Bool) (b : Top) (eu : u ≡ left_of s (has q.stale.bits)) (best : Tops u (placed q.versions) b) where
    version-is : b.value ≡ good_version p s
    unfolding good_version
    version-is = best.value ∙ ap₂ (most 64) (eu ∙ unmarked-is) shown.versions

    good-is : has b.rows.bits ≡ good p s
    unfolding good
    good-is = best.rows ∙ ap₂ {C = ℕ → Bool} (λ (v : ℕ → Bool) (f : ℕ → ℕ) (i : ℕ). v i && eqb (f i) b.value) (eu ∙ unmarked-is) shown.versions
        ∙ ap {B = ℕ → Bool} (λ (x : ℕ) (i : ℕ). unmarked p s i && eqb (p.version i) x) version-is

    current-is : (m : ℕ → Bool) → m ≡ cut_to s (has q.stale.bits)
        → (not (not (some 64 (has b.rows.bits))) && not (some 64 (λ (i : ℕ). m i && ltb b.value (placed q.desired i)))) ≡ current p s
    unfolding current
    current-is m em =
        ap₂ (λ (x y : Bool). x && not y) (not-not (some 64 (has b.rows.bits)) ∙ ap (some 64) good-is)
        (ap₂ (λ (v : ℕ → Bool) (f : ℕ → ℕ). some 64 (λ (i : ℕ). v i && ltb b.value (f i))) (em ∙ marked-is) shown.desired
        ∙ ap (λ (x : ℕ). some 64 (λ (i : ℕ). marked p s i && ltb x (p.desired i))) version-is)

    pub tallied : (m : ℕ → Bool) (lacking passed is : Bool) → m ≡ cut_to s (has q.stale.bits)
        → passed ≡ some 64 (λ (i : ℕ). m i && ltb b.value (placed q.desired i))
        → lacking ≡ not (some 64 (has b.rows.bits))
        → is ≡ (not lacking && not passed)
        → Tallied p s (record { good = b.rows; version = b.value; current = is })
    tallied m lacking passed is em ep el ei = record {
      good = good-is;
      version = version-is;
      current = ei ∙ ap₂ (λ (x y : Bool). not x && not y) el ep ∙ current-is m em;
    }
