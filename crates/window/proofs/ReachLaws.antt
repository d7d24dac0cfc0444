-- The last d patches of a row's window, laid over what a row kept d versions back.
use mathlib.Core.Path.{◌≡◌, refl, sym, ◌∙◌, ap}
use mathlib.Core.Bool.{Bool, true, false, cond}
use mathlib.Core.List.{List, [], ◌∷◌, ◌++◌}
use Prim.Native.Nat.{ℕ, zero, suc, ◌+◌, ◌-◌, ◌≤◌, ◌<◌}
use native.Mathlib.Decide.{dec_le}
use native.Mathlib.Omega.{arith}
use lib.Dec.{leb}
use lib.ListN.{length, drop, length-append, length-drop}
use lib.Seq.{drop-drop, drop-length, drop-append-le}
use borrow.Author.Tests.{leb-true, le-leb, lt-leb}
use Rattle.octets.specs.Bytes.{put}
use Rattle.octets.proofs.ByteLaws.{length-put, length-zeros}
use Rattle.window.specs.Windows.{Window, Patch, Kept, patches, window_right, added, patched, laid, lastly, sent}
use Rattle.window.specs.Claims.{Whole, Fits, LatestKept, StaysRight, Grown, SentIsWhole}
use Rattle.window.proofs.AddLaws.{patches-added, added-long, patches-emptied, emptied-whole, emptied-right, added-right}

-- ---- lists of patches
laid_none : (ps : List Patch) (c : List ℕ) → laid (lastly 0 ps) c ≡ c
unfolding lastly laid
laid_none ps c = let n : length ps - 0 ≡ length ps = omega arith in rw (n, drop-length ps)

laid_more : (ps : List Patch) (p : Patch) (c : List ℕ) → laid (ps ++ (p ∷ [])) c ≡ put p.offset p.bytes (laid ps c)
unfolding laid
laid_more [] p c = refl
laid_more (q ∷ qs) p c = laid_more qs p (put q.offset q.bytes c)

-- the last d and one more
lastly-more : (d m : ℕ) (ps : List Patch) (p : Patch) → m ≤ length ps → d ≤ length ps - m → lastly (suc d) (drop m ps ++ (p ∷ [])) ≡ lastly d ps ++ (p ∷ [])
unfolding lastly
lastly-more d m ps p l h =
    let n : length (drop m ps ++ (p ∷ [])) - suc d ≡ length (drop m ps) - d = omega (arith, length-append (drop m ps) (p ∷ [])) in
    let k : m + (length (drop m ps) - d) ≡ length ps - d = omega (arith, length-drop m ps) in
    rw n (drop-append-le (length (drop m ps) - d) (drop m ps) (p ∷ []) (omega arith)
    ∙ ap (λ (l : List Patch). l ++ (p ∷ [])) (drop-drop (length (drop m ps) - d) m ps ∙ ap (λ (j : ℕ). drop j ps) k))

module _ {file n : ℕ} {kept : ℕ → Kept} (g : Grown file n kept) where
  pub kept-long : (v : ℕ) → v ≤ n → length (kept v).contents ≡ file
  unfolding patched
  kept-long zero h = ap (λ (k : Kept). length k.contents) g.first ∙ length-zeros file
  kept-long (suc v) h =
      let s = g.grows v (omega arith) in
      let e = kept-long v (omega arith) in
      ap (λ (k : Kept). length k.contents) s.2 ∙ length-put (kept v).contents s.0.offset s.0.bytes (omega (arith, s.1.inside, e)) ∙ e

  -- a patch more
  pub grown-more : (p : Patch) → Fits file p → Grown file (suc n) (λ v. cond (leb v n) (kept v) (patched p (kept n)))
  grown-more p f = record { first = rw (le-leb 0 n (omega arith)) g.first; grows = λ v h. go v h (dec_le (suc v) n) }
    where
      go : (v : ℕ) → v < suc n → Dec (suc v ≤ n)
          → (q : Patch) × Fits file q × (cond (leb (suc v) n) (kept (suc v)) (patched p (kept n)) ≡ patched q (cond (leb v n) (kept v) (patched p (kept n))))
      go v h (yes l) =
          let s = g.grows v l in
          (s.0, s.1, rw (le-leb (suc v) n l, le-leb v n (omega arith)) s.2)
      go v h (no l) =
          let e : v ≡ n = omega arith in
          (p, f, rw (lt-leb (suc v) n (omega arith), le-leb v n (omega arith), e))

module _ {file n : ℕ} (low : file < 65_536) {kept : ℕ → Kept} (g : Grown file n kept) where
  pub kept-right : (v : ℕ) → v ≤ n → Whole (kept v).window × (window_right file v (kept v).window ≡ true)
  unfolding patched StaysRight
  kept-right zero h = rw g.first (emptied-whole, emptied-right file 0)
  kept-right (suc v) h =
      let s = g.grows v (omega arith) in
      let r = kept-right v (omega arith) in
      rw s.2 (added-right file v low (kept v).window r.0 r.1 s.0 s.1)

  -- a window reaches back as many versions as it has patches
  pub reaches : (v : ℕ) → v ≤ n → (d : ℕ) → d ≤ length (patches (kept v).window) → laid (lastly d (patches (kept v).window)) (kept (v - d)).contents ≡ (kept v).contents
  unfolding patched LatestKept
  reaches v h zero q = let z : v - 0 ≡ v = omega arith in rw z (laid_none (patches (kept v).window) (kept v).contents)
  reaches zero h (suc d) q = absurd (omega (arith, q, ap (λ (k : Kept). length (patches k.window)) g.first, ap length patches-emptied))
  reaches (suc v) h (suc d) q =
      let s = g.grows v (omega arith) in
      let z : suc v - suc d ≡ v - d = omega arith in
      rw (s.2, z) (go (dec_le (length s.0.bytes) 32) (kept-right v (omega arith)) (reaches v (omega arith) d))
    where
      p : Patch
      p = (g.grows v (omega arith)).0

      w : Window
      w = (kept v).window

      many : suc d ≤ length (patches (added p w))
      many = rw (g.grows v (omega arith)).2 at q

      go : Dec (length p.bytes ≤ 32) → Whole w × (window_right file v w ≡ true)
          → (d ≤ length (patches w) → laid (lastly d (patches w)) (kept (v - d)).contents ≡ (kept v).contents)
          → laid (lastly (suc d) (patches (added p w))) (kept (v - d)).contents ≡ put p.offset p.bytes (kept v).contents
      go (no l) r ih = absurd (omega (arith, many, ap (λ (u : Window). length (patches u)) (added-long p w (omega arith)), ap length patches-emptied))
      go (yes l) r ih =
          let e = patches-added file v low w r.0 r.1 p (g.grows v (omega arith)).1 l in
          let k : d ≤ length (patches w) - (length (patches w) - 15) = omega (arith, many, ap length e, length-append (drop (length (patches w) - 15) (patches w)) (p ∷ []), length-drop (length (patches w) - 15) (patches w)) in
          rw (e, lastly-more d (length (patches w) - 15) (patches w) p (omega arith) k, laid_more (lastly d (patches w)) p (kept (v - d)).contents, ih (omega arith))

  -- as a whole send
  pub sent-whole : (u v : ℕ) → u ≤ v → v ≤ n → sent (v - u) (kept v).window (kept v).contents (kept u).contents ≡ (kept v).contents
  unfolding sent
  sent-whole u v h l = go (leb (v - u) (length (patches (kept v).window))) refl
    where
      go : (b : Bool) → leb (v - u) (length (patches (kept v).window)) ≡ b
          → cond b (laid (lastly (v - u) (patches (kept v).window)) (kept u).contents) (kept v).contents ≡ (kept v).contents
      go false e = refl
      go true e =
          let z : v - (v - u) ≡ u = omega arith in
          ap (λ (k : ℕ). laid (lastly (v - u) (patches (kept v).window)) (kept k).contents) (sym z) ∙ reaches v l (v - u) (leb-true _ _ e)

pub sent-is-whole : SentIsWhole
unfolding SentIsWhole
sent-is-whole file n low kept g u v h l = sent-whole low g u v h l
