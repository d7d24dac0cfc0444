-- A copy's window: what is stored is read, nothing else changes; no other change of a copy alters it.
use mathlib.Core.Path.{◌≡◌, refl, ◌∙◌}
use mathlib.Core.Bool.{true}
use mathlib.Core.Logic.{◌⊎◌, inl, inr}
use mathlib.Core.List.{List, [], ◌∷◌}
use Prim.Native.Nat.{ℕ, ◌+◌, ◌-◌, ◌≤◌, ◌<◌}
use native.Mathlib.Omega.{arith}
use lib.ListN.{length, length-drop}
use Rattle.sets.proofs.RisingLaws.{among-head}
use Rattle.fields.specs.Layout.{Field, get, store, oldest, records, spare, contents, store_contents}
use Rattle.fields.proofs.FieldLaws.{Ends, Apart, BlankCopy, length-store, get-store, part-store, get_other, contents-store, records-store, get-contents, records-contents, length-records, part-records, get-records, contents-records, records-records}
use Rattle.linking.proofs.PathLaws.{Path}
use Rattle.window.specs.Windows.{Window, next, path, places, width, emptied, window_right, window_of, store_window}
use Rattle.window.specs.Claims.{Whole}
use Rattle.window.proofs.RightLaws.{Right, right_is, right-path, right-within}
use Rattle.linking.specs.Linking.{behind}

window-is : (w v : Window) → w.oldest ≡ v.oldest → w.records ≡ v.records → w ≡ v
window-is w v e q = λ i. record { oldest = e i; records = q i }

pub window-whole : (copy : List ℕ) → 588 ≤ length copy → Whole (window_of copy)
unfolding window_of records
window-whole copy h = length-drop (length copy - 576) copy ∙ omega arith

-- the oldest record of a right window is one of 16, or none
pub oldest-small : (file version : ℕ) (w : Window) → Whole w → window_right file version w ≡ true → w.oldest ≤ 16
unfolding Path behind
oldest-small file version w long e = go (path w) refl (right-path w long r)
  where
    r : Right file version w
    r = right_is file version w e

    go : (l : List ℕ) → path w ≡ l → Path (behind w.oldest (next w)) 0 l → w.oldest ≤ 16
    go [] q p = omega (arith, p)
    go (x ∷ l) q p = omega (arith, p.0, right-within w long r x (rw q (among-head x l)), r.few)

-- ---- a window stored
module _ (w : Window) (copy : List ℕ) (whole : Whole w) (small : w.oldest < 256) (long : 588 ≤ length copy) where
  marked : List ℕ
  marked = store oldest w.oldest copy

  place : oldest.place + oldest.width ≤ length copy
  unfolding oldest
  place = omega arith

  still : length marked ≡ length copy
  unfolding marked
  still = length-store oldest w.oldest copy place

  pub length-window : length (store_window w copy) ≡ length copy
  unfolding store_window marked
  length-window = length-records w.records marked whole (omega (arith, still)) ∙ still

  -- every other field of the copy, and its bytes that hold nothing
  pub get-window : (g : Field) → Ends g 12 → Apart g 1 2 → get g (store_window w copy) ≡ get g copy
  unfolding store_window marked oldest
  get-window g e q = get-records w.records marked whole (omega (arith, still)) g e ∙ get_other oldest w.oldest copy place g q

  pub spare-window : spare (store_window w copy) ≡ spare copy
  unfolding spare store_window marked oldest
  spare-window = part-records w.records marked whole (omega (arith, still)) 2 2 (omega (arith, still)) ∙ part-store oldest w.oldest copy place 2 2 (inr (omega arith))

  pub contents-window : contents (store_window w copy) ≡ contents copy
  unfolding store_window marked oldest
  contents-window = contents-records w.records marked whole (omega (arith, still)) ∙ contents-store oldest w.oldest copy place (omega arith)

  pub window-stored : window_of (store_window w copy) ≡ w
  unfolding window_of store_window marked oldest
  window-stored = window-is (window_of (store_window w copy)) w
      (get-records w.records marked whole (omega (arith, still)) oldest (omega arith) ∙ get-store oldest w.oldest copy place (omega arith))
      (records-records w.records marked whole (omega (arith, still)))

-- ---- a field stored, and contents
pub window-store : (f : Field) (v : ℕ) (copy : List ℕ) → Ends f 12 → Apart f 1 2 → 588 ≤ length copy → window_of (store f v copy) ≡ window_of copy
unfolding window_of oldest
window-store f v copy e q long = window-is (window_of (store f v copy)) (window_of copy) (get_other f v copy (omega arith) oldest (turned q)) (records-store f v copy (omega arith) e long)
  where
    turned : Apart f 1 2 → (2 ≤ f.place) ⊎ (f.place + f.width ≤ 1)
    turned (inl l) = inr l
    turned (inr l) = inl l

pub window-contents : (offset : ℕ) (p copy : List ℕ) → 588 + offset + length p ≤ length copy → window_of (store_contents offset p copy) ≡ window_of copy
unfolding window_of oldest
window-contents offset p copy h = window-is (window_of (store_contents offset p copy)) (window_of copy) (get-contents offset p copy h oldest (omega arith)) (records-contents offset p copy h)

-- a blank copy has an empty window
pub window-blank : (file : ℕ) (copy : List ℕ) → BlankCopy file copy → window_of copy ≡ emptied
unfolding window_of emptied places width
window-blank file copy b = window-is (window_of copy) emptied b.oldest b.records
