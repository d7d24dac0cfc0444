-- What the rows keep of a file goes by their versions of it: contents and window of a row of version v are those that v writes leave.
use mathlib.Core.Path.{◌≡◌, sym, ◌∙◌, ap, ap₂}
use mathlib.Core.Bool.{cond}
use mathlib.Core.Logic.{◌⊎◌, ⊎_elim}
use mathlib.Core.List.{List}
use Prim.Native.Nat.{ℕ, suc, ◌-◌, ◌≤◌, ◌<◌}
use native.Mathlib.Omega.{arith}
use lib.Dec.{leb}
use borrow.Author.Tests.{le-leb, lt-leb}
use Rattle.sets.specs.Upto.{Within}
use Rattle.fields.specs.Layout.{get, version, contents, copy_bytes, used_of, file_length_of, version_of, contents_of}
use Rattle.octets.specs.Bytes.{zeros}
use Rattle.window.specs.Windows.{Patch, Kept, window_of, emptied, patched, sent}
use Rattle.window.specs.Claims.{Fits, Grown}
use Rattle.window.proofs.ReachLaws.{grown-more, sent-whole}
use Rattle.protocol.specs.Rows.{sent_contents}
use Rattle.history.specs.Claims.{kept_of}

-- what a row of each version keeps after so many writes, and that each row keeps what its version says
pub record Trail (q : ℕ) (t : List ℕ) (writes : ℕ) : Type 0 where
  pub kept : ℕ → Kept
  pub grown : Grown (file_length_of t) writes kept
  pub held : (i : ℕ) → Within (used_of t) i → kept_of t q i ≡ kept (version_of t q i)

kept-is : (k l : Kept) → k.contents ≡ l.contents → k.window ≡ l.window → k ≡ l
kept-is k l e z = λ i. record { contents = e i; window = z i }

-- row i of u keeps what row i of t does, at the same version
pub record SameKept (q : ℕ) (t u : List ℕ) (i : ℕ) : Type 0 where
  pub version : version_of u q i ≡ version_of t q i
  pub contents : contents_of u q i ≡ contents_of t q i
  pub window : window_of (copy_bytes u q i) ≡ window_of (copy_bytes t q i)

pub same_kept : {q : ℕ} {t u : List ℕ} {i : ℕ} → SameKept q t u i → kept_of u q i ≡ kept_of t q i
unfolding kept_of
same_kept {q} {t} {u} {i} s = kept-is (kept_of u q i) (kept_of t q i) s.contents s.window

pub same_copy : (q : ℕ) (t u : List ℕ) (i : ℕ) → copy_bytes u q i ≡ copy_bytes t q i → SameKept q t u i
unfolding version_of contents_of
same_copy q t u i e = record { version = ap (get version) e; contents = ap contents e; window = ap window_of e }

module _ {q : ℕ} {t u : List ℕ} {writes : ℕ} (r : Trail q t writes) (file : file_length_of u ≡ file_length_of t) where
  same-held : (i : ℕ) → Within (used_of t) i → SameKept q t u i → kept_of u q i ≡ r.kept (version_of u q i)
  same-held i v s = same_kept s ∙ r.held i v ∙ ap r.kept (sym s.version)

  -- every row as it was, or new and blank
  pub trail-same : used_of u ≡ used_of t → ((i : ℕ) → Within (used_of t) i → SameKept q t u i) → Trail q u writes
  trail-same used same = record { kept = r.kept; grown = rw file r.grown; held = rw used (λ i v. same-held i v (same i v)) }

  -- a row more, with nothing in it
  pub trail_more : used_of u ≡ suc (used_of t) → ((i : ℕ) → Within (used_of t) i → SameKept q t u i)
      → version_of u q (suc (used_of t)) ≡ 0 → kept_of u q (suc (used_of t)) ≡ record { contents = zeros (file_length_of t); window = emptied }
      → ((i : ℕ) → Within (suc (used_of t)) i → (i ≡ suc (used_of t)) ⊎ Within (used_of t) i) → Trail q u writes
  trail_more used same none blank last = record {
    kept = r.kept;
    grown = rw file r.grown;
    held = rw used (λ i v. ⊎_elim
        (λ (z : i ≡ suc (used_of t)). rw z (blank ∙ sym r.grown.first ∙ ap r.kept (sym none)))
        (λ w. same-held i w (same i w))
        (last i v));
  }

  -- each row as it was, or a row of the last version with the patch on it
  pub trail-write : used_of u ≡ used_of t → (p : Patch) → Fits (file_length_of t) p → ((i : ℕ) → Within (used_of t) i → version_of t q i ≤ writes)
      → ((i : ℕ) → Within (used_of t) i → SameKept q t u i ⊎ ((version_of t q i ≡ writes) × (version_of u q i ≡ suc writes) × (kept_of u q i ≡ patched p (kept_of t q i)))) → Trail q u (suc writes)
  trail-write used p f past each = record {
    kept = kept';
    grown = rw file (grown-more {file = file_length_of t} r.grown p f);
    held = rw used (λ i v. ⊎_elim (old i v) (new i v) (each i v));
  }
    where
      kept' : ℕ → Kept
      kept' v = cond (leb v writes) (r.kept v) (patched p (r.kept writes))

      old : (i : ℕ) → Within (used_of t) i → SameKept q t u i → kept_of u q i ≡ kept' (version_of u q i)
      old i v s = same-held i v s ∙ rw (le-leb (version_of u q i) writes (omega (arith, s.version, past i v)))

      new : (i : ℕ) → Within (used_of t) i → (version_of t q i ≡ writes) × (version_of u q i ≡ suc writes) × (kept_of u q i ≡ patched p (kept_of t q i)) → kept_of u q i ≡ kept' (version_of u q i)
      new i v s = s.2 ∙ ap (patched p) (r.held i v ∙ ap r.kept s.0) ∙ sym (rw (s.1, lt-leb (suc writes) writes (omega arith)))

-- what a send lays is what the sender holds
module _ {q : ℕ} {t : List ℕ} {writes : ℕ} (r : Trail q t writes) (low : file_length_of t < 65_536) (f to : ℕ) (uf : Within (used_of t) f) (ut : Within (used_of t) to)
    (past : version_of t q f ≤ writes) (behind : version_of t q to ≤ version_of t q f) where
  pub sent-all : sent_contents (copy_bytes t q f) (copy_bytes t q to) ≡ contents_of t q f
  unfolding sent_contents version_of contents_of kept_of
  sent-all =
      let a = r.held f uf in
      let b = r.held to ut in
      ap₂ (λ (x y : Kept). sent (version_of t q f - version_of t q to) x.window x.contents y.contents) a b
      ∙ sent-whole low r.grown (version_of t q to) (version_of t q f) behind past ∙ ap (λ (k : Kept). k.contents) (sym a)
