-- What a send leaves of a copy, as the code makes it.
use mathlib.Core.Path.{◌≡◌, sym, ◌∙◌, ap, ap₂, subst}
use mathlib.Core.List.{List, ◌++◌}
use Prim.Native.Nat.{ℕ, ◌+◌, ◌-◌, ◌≤◌}
use native.Mathlib.Omega.{arith}
use lib.ListN.{length, take, drop, length-take, length-drop}
use lib.Seq.{drop-drop}
use Rattle.octets.specs.Bytes.{part, put}
use Rattle.octets.proofs.CodeLaws.{tail-is}
use Rattle.fields.specs.Layout.{get, store, mark, version, desired, oldest, contents, records, store_contents, store_records}
use Rattle.fields.proofs.FieldLaws.{length-store, contents-store}
use Rattle.window.specs.Windows.{Window, window_of, store_window, sent}
use Rattle.windows.specs.Visits.{window, RightFor}
use Rattle.patches.proofs.CopyLaws.{tail-back, cut-window}
use Rattle.protocol.specs.Rows.{sent_contents, refreshed_copy}

module _ (copy source : List ℕ) (long : 588 ≤ length copy) (same : length copy ≡ length source) where
  -- the records of the source as the code cuts them
  pub records-cut : take (length source - (length copy - 576)) (drop (length copy - 576) source) ≡ records source
  unfolding records
  records-cut = tail-is source (length copy - 576) (length source - 576) (ap (λ (n : ℕ). n - 576) same)

  pub records-long : length (take (length source - (length copy - 576)) (drop (length copy - 576) source)) ≡ 576
  records-long = omega (arith, length-take (length source - (length copy - 576)) (drop (length copy - 576) source), length-drop (length copy - 576) source)

  pub took-over : (new ys : List ℕ) → new ≡ store oldest (get oldest source) copy → ys ≡ take (length source - (length copy - 576)) (drop (length copy - 576) source)
      → take (length copy - 576) new ++ (ys ++ drop (length new - (length copy - 576)) (drop (length copy - 576) new)) ≡ store_window (window_of source) copy
  unfolding store_window store_records window_of oldest
  took-over new ys e q =
      let n : length new ≡ length copy = ap length e ∙ length-store oldest (get oldest source) copy (omega arith) in
      tail-back new ys (length copy - 576) (omega (arith, n)) (ap length q ∙ records-long ∙ omega (arith, n))
      ∙ ap₂ (λ (k : ℕ) (r : List ℕ). put (k - 576) r new) (sym n) (q ∙ records-cut)
      ∙ ap (λ (r : List ℕ). put (length r - 576) (records source) r) e

  -- ---- contents
  room : length copy - 576 - 12 ≡ length copy - 588
  room = omega arith

  contents-cut : take (length copy - 576 - 12) (drop 12 source) ≡ contents source
  unfolding contents part
  contents-cut = ap (λ (n : ℕ). take n (drop 12 source)) (room ∙ ap (λ (n : ℕ). n - 588) same)

  own-cut : take (length copy - 576 - 12) (drop 12 copy) ≡ contents copy
  unfolding contents part
  own-cut = ap (λ (n : ℕ). take n (drop 12 copy)) room

  pub own-long : length (take (length copy - 576 - 12) (drop 12 copy)) ≡ length copy - 588
  own-long = omega (arith, length-take (length copy - 576 - 12) (drop 12 copy), length-drop 12 copy)

  pub both_long : length (take (length copy - 576 - 12) (drop 12 copy)) ≡ length (take (length copy - 576 - 12) (drop 12 source))
  both_long = omega (arith, own-long, length-take (length copy - 576 - 12) (drop 12 source), length-drop 12 source)

  pub window-cut : (o : ℕ) → o ≡ get oldest source → window o (take (length source - (length copy - 576)) (drop (length copy - 576) source)) ≡ window_of source
  unfolding records
  window-cut o e = cut-window source _ o e records-cut

  pub right-cut : (o : ℕ) → o ≡ get oldest source → RightFor (length copy - 588) (window_of source)
      → RightFor (length (take (length copy - 576 - 12) (drop 12 copy))) (window o (take (length source - (length copy - 576)) (drop (length copy - 576) source)))
  right-cut o e r = subst (λ (w : Window). RightFor (length (take (length copy - 576 - 12) (drop 12 copy))) w) (sym (window-cut o e)) (subst (λ (n : ℕ). RightFor n (window_of source)) (sym own-long) r)

  pub sent-in : (missing o : ℕ) (ys : List ℕ) → o ≡ get oldest source
      → ys ≡ sent missing (window o (take (length source - (length copy - 576)) (drop (length copy - 576) source))) (take (length copy - 576 - 12) (drop 12 source)) (take (length copy - 576 - 12) (drop 12 copy))
      → length ys ≡ length (take (length copy - 576 - 12) (drop 12 copy))
      → take 12 copy ++ (ys ++ drop (length copy - 576 - 12) (drop 12 copy)) ≡ store_contents 0 (sent missing (window_of source) (contents source) (contents copy)) copy
  unfolding store_contents put
  sent-in missing o ys e q n =
      let y : ys ≡ sent missing (window_of source) (contents source) (contents copy) =
      q ∙ ap (λ (w : Window). sent missing w (take (length copy - 576 - 12) (drop 12 source)) (take (length copy - 576 - 12) (drop 12 copy))) (window-cut o e)
      ∙ ap₂ (sent missing (window_of source)) contents-cut own-cut in
      let m : 12 + (length copy - 576 - 12) ≡ 12 + 0 + length ys = omega (arith, n, own-long) in
      ap (λ (l : List ℕ). take 12 copy ++ (ys ++ l)) (drop-drop (length copy - 576 - 12) 12 copy ∙ ap (λ (k : ℕ). drop k copy) m)
      ∙ ap (λ (p : List ℕ). take 12 copy ++ (p ++ drop (12 + 0 + length p) copy)) y

  -- ---- the three together
  pub renewed-contents : (v : ℕ) → contents (store desired 0 (store version v (store mark 0 copy))) ≡ contents copy
  unfolding desired version mark
  renewed-contents v =
      let a : length (store mark 0 copy) ≡ length copy = length-store mark 0 copy (omega arith) in
      let b : length (store version v (store mark 0 copy)) ≡ length copy = length-store version v (store mark 0 copy) (omega (arith, a)) ∙ a in
      contents-store desired 0 (store version v (store mark 0 copy)) (omega (arith, b)) (omega arith)
      ∙ contents-store version v (store mark 0 copy) (omega (arith, a)) (omega arith) ∙ contents-store mark 0 copy (omega arith) (omega arith)

  pub all-sent : (v missing : ℕ) (one two three : List ℕ) → v ≡ get version source → missing ≡ v - get version copy
      → one ≡ store desired 0 (store version v (store mark 0 copy))
      → two ≡ store_contents 0 (sent missing (window_of source) (contents source) (contents one)) one
      → three ≡ store_window (window_of source) two → three ≡ refreshed_copy source copy
  unfolding refreshed_copy sent_contents
  all-sent v missing one two three e m p q r =
      let k : missing ≡ get version source - get version copy = m ∙ ap (λ (n : ℕ). n - get version copy) e in
      let c : contents one ≡ contents copy = ap contents p ∙ renewed-contents v in
      let o : one ≡ store desired 0 (store version (get version source) (store mark 0 copy)) = p ∙ ap (λ (n : ℕ). store desired 0 (store version n (store mark 0 copy))) e in
      r ∙ ap (store_window (window_of source)) (q ∙ ap₂ (λ (l : List ℕ) (x : List ℕ). store_contents 0 l x) (ap₂ (λ (n : ℕ) (l : List ℕ). sent n (window_of source) (contents source) l) k c) o)
