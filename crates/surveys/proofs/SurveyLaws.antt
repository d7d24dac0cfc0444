-- A set that has the whole list; a set of rows looked at in one file after another.
use mathlib.Core.Path.{◌≡◌, refl, sym, ◌∙◌, ap, ap₂, subst}
use mathlib.Core.Bool.{Bool, true, false, not, ◌&&◌}
use mathlib.Core.Logic.{◌⊎◌, inl, inr}
use mathlib.Core.List.{List}
use Prim.Native.Nat.{ℕ, suc, ◌+◌, ◌-◌, ◌^◌, ◌<◌}
use native.Mathlib.Omega.{arith}
use native.Mathlib.Numerals.{add-one}
use lib.ListN.{length, get_or, set, replicate, length-set}
use lib.Seq.{get_or-set_same, get_or-set_other}
use borrow.Author.Tests.{not-true, not-false}
use Rattle.bools.proofs.BoolLaws.{and_l, and_r, clash}
use Rattle.sets.specs.Upto.{Within, every, some}
use Rattle.sets.specs.Sets.{has, left_of}
use Rattle.sets.proofs.UptoLaws.{last, some_of}
use Rattle.sets.proofs.SetLaws.{has_within}
use Rattle.fields.specs.Layout.{files_of}
use Rattle.protocol.specs.Polls.{good_version, good, current}
use Rattle.protocol.specs.Calls.{answers}
use Rattle.verdicts.specs.declared.Tally.{Tally}
use Rattle.verdicts.specs.Judged.{Tallied}
use Rattle.enroll.specs.Files.{by_file}
use Rattle.enroll.specs.declared.FileState.{FileState}
use Rattle.surveys.specs.Surveyed.{Surveyed}

-- a set outside of which a list has no member has them all
pub whole_in : (m s : ℕ) (out : ℕ → Bool) (none whole r : Bool) → m < 2 ^ 64 → r ≡ (not none && whole) → none ≡ not (some 64 (has m)) → whole ≡ not (some 64 out) → out ≡ left_of (has m) (has s)
    → r ≡ true → (some 64 (has m) ≡ true) × ((i : ℕ) → has m i ≡ true → has s i ≡ true)
unfolding left_of
whole_in m s out none whole r small er en ew eo y =
    (not-false _ (sym en ∙ not-true none (and_l _ _ (sym er ∙ y))), λ i h. go i h (has s i) refl)
  where
    go : (i : ℕ) → has m i ≡ true → (b : Bool) → has s i ≡ b → b ≡ true
    go i h true e = refl
    go i h false e =
        let left : out i ≡ true = ap (λ (f : ℕ → Bool). f i) eo ∙ rw (h, e) in
        absurd (clash (sym (not-true _ (sym ew ∙ and_r (not none) whole (sym er ∙ y))) ∙ some_of 64 out i (has_within 64 m i small h) left))

-- ---- files, one after another
abbrev nothing : FileState
nothing = record { good = record { bits = 0 }; version = 0 }

-- what stands at the place of file k + 1, and what at those before
here : (xs : List FileState) (k : ℕ) (v : FileState) → k < length xs → by_file (set xs k v) (suc k) ≡ v
unfolding by_file
here xs k v h = let e : suc k - 1 ≡ k = omega arith in ap (λ (n : ℕ). get_or (set xs k v) n nothing) e ∙ get_or-set_same xs k v nothing h

before : (xs : List FileState) (k : ℕ) (v : FileState) (q : ℕ) → Within k q → by_file (set xs k v) q ≡ by_file xs q
unfolding by_file
before xs k v q w = get_or-set_other xs k (q - 1) v nothing (λ e. omega arith)

-- what was found in the first k files
pub record Seen (t : List ℕ) (r k : ℕ) (files : List FileState) (all : Bool) : Type 0 where
  pub places : length files ≡ 8
  pub goods : (q : ℕ) → Within k q → has (by_file files q).good.bits ≡ good (answers t q r) (has r)
  pub versions : (q : ℕ) → Within k q → (by_file files q).version ≡ good_version (answers t q r) (has r)
  pub current : all ≡ every k (λ q. current (answers t q r) (has r))

pub seen_more : (t : List ℕ) (r k : ℕ) (files : List FileState) (all : Bool) → Seen t r k files all → k < 8 → (f : Tally) → Tallied (answers t (k + 1) r) (has r) f
    → (v : FileState) → v ≡ record { good = f.good; version = f.version } → (b : Bool) → b ≡ (all && f.current) → Seen t r (k + 1) (set files k v) b
unfolding every
seen_more t r k files all s h f y v ev b e = rw (add-one k) (record {
  places = length-set files k v ∙ s.places;
  goods = λ q w. good-at q (last k q w);
  versions = λ q w. version-at q (last k q w);
  current = e ∙ ap₂ (λ (x z : Bool). x && z) s.current z.current;
})
  where
    z : Tallied (answers t (suc k) r) (has r) f
    z = rw (add-one k) at y

    good-at : (q : ℕ) → (q ≡ suc k) ⊎ Within k q → has (by_file (set files k v) q).good.bits ≡ good (answers t q r) (has r)
    good-at q (inl p) = rw p (ap (λ (x : FileState). has x.good.bits) (here files k v (omega (arith, s.places)) ∙ ev) ∙ z.good)
    good-at q (inr w) = ap (λ (x : FileState). has x.good.bits) (before files k v q w) ∙ s.goods q w

    version-at : (q : ℕ) → (q ≡ suc k) ⊎ Within k q → (by_file (set files k v) q).version ≡ good_version (answers t q r) (has r)
    version-at q (inl p) = rw p (ap (λ (x : FileState). x.version) (here files k v (omega (arith, s.places)) ∙ ev) ∙ z.version)
    version-at q (inr w) = ap (λ (x : FileState). x.version) (before files k v q w) ∙ s.versions q w

-- the first of eight equal places is that of file 1
pub seen_first : (t : List ℕ) (r : ℕ) (f : Tally) → Tallied (answers t 1 r) (has r) f → (v : FileState) → v ≡ record { good = f.good; version = f.version } → Seen t r 1 (replicate 8 v) f.current
unfolding every by_file
seen_first t r f y v ev = record {
  places = refl;
  goods = λ q w. let e : q ≡ 1 = omega arith in rw e (ap (λ (x : FileState). has x.good.bits) ev ∙ y.good);
  versions = λ q w. let e : q ≡ 1 = omega arith in rw e (ap (λ (x : FileState). x.version) ev ∙ y.version);
  current = y.current;
}

pub seen_all : (t : List ℕ) (r k : ℕ) (files : List FileState) (all : Bool) → Seen t r k files all → k ≡ files_of t → Surveyed t r (record { files = files; current = all })
seen_all t r k files all s e =
    let z : Seen t r (files_of t) files all = subst (λ (n : ℕ). Seen t r n files all) e s in
    record { goods = z.goods; versions = z.versions; current = z.current }
