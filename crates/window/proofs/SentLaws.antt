-- What a send lays is as long as the file.
use mathlib.Core.Path.{◌≡◌, ◌∙◌}
use mathlib.Core.Bool.{Bool, true, false, cond}
use mathlib.Core.List.{List, [], ◌∷◌, map}
use Prim.Native.Nat.{ℕ, zero, suc, ◌+◌, ◌-◌, ◌≤◌}
use native.Mathlib.Omega.{arith}
use lib.Dec.{leb}
use lib.ListN.{length, drop}
use borrow.Author.Tests.{leb-true}
use Rattle.bools.proofs.BoolLaws.{and_l, and_r}
use Rattle.sets.specs.Upto.{among}
use Rattle.sets.proofs.RisingLaws.{among-head, among-tail}
use Rattle.octets.specs.Bytes.{put}
use Rattle.octets.proofs.ByteLaws.{length_part, length-put}
use Rattle.fields.specs.Layout.{get}
use Rattle.window.specs.Windows.{Window, Patch, size, start, patch_in, record_of, path, patches, record_right, window_right, laid, lastly, sent}
use Rattle.window.specs.Claims.{Whole}
use Rattle.window.proofs.RightLaws.{Right, right_is, right-within, record-long}

-- a patch within the file
abbrev Inside : ℕ → Patch → Type 0
Inside file p = p.offset + length p.bytes ≤ file

-- all of a list
data All (file : ℕ) : List Patch → Type 0 where
  none : All file []
  more : {p : Patch} {ps : List Patch} → Inside file p → All file ps → All file (p ∷ ps)

all_drop : {file : ℕ} (n : ℕ) {ps : List Patch} → All file ps → All file (drop n ps)
all_drop zero a = a
all_drop (suc n) none = none
all_drop (suc n) (more h a) = all_drop n a

laid-long : {file : ℕ} {ps : List Patch} → All file ps → (c : List ℕ) → length c ≡ file → length (laid ps c) ≡ file
unfolding laid
laid-long none c e = e
laid-long (more {p} {ps} h a) c e = laid-long a (put p.offset p.bytes c) (length-put c p.offset p.bytes (omega (arith, h, e)) ∙ e)

all_map : {file : ℕ} (f : ℕ → Patch) (xs : List ℕ) → ((x : ℕ) → among xs x ≡ true → Inside file (f x)) → All file (map f xs)
all_map f [] g = none
all_map f (x ∷ xs) g = more (g x (among-head x xs)) (all_map f xs (λ y m. g y (among-tail x xs y m)))

-- the patch of a right record
inside_is : (file : ℕ) (r : List ℕ) → length r ≡ 36 → record_right file r ≡ true → Inside file (patch_in r)
unfolding record_right patch_in
inside_is file r long e =
    let e1 = and_r (leb 1 (get size r)) _ e in
    let e2 = and_r (leb (get size r) 32) _ e1 in
    omega (arith, leb-true (get size r) 32 (and_l _ _ e1), leb-true (get start r + get size r) file (and_l _ _ e2), length_part 4 (get size r) r (omega (arith, long, leb-true (get size r) 32 (and_l _ _ e1))))

pub sent-long : (file version : ℕ) (w : Window) → Whole w → window_right file version w ≡ true → (d : ℕ) (whole own : List ℕ) → length whole ≡ file → length own ≡ file
    → length (sent d w whole own) ≡ file
unfolding sent lastly patches
sent-long file version w long e d whole own a b = go (leb d (length (patches w)))
  where
    r : Right file version w
    r = right_is file version w e

    each : All file (patches w)
    each = all_map (λ (x : ℕ). patch_in (record_of w x)) (path w) (λ x m.
        let v = right-within w long r x m in
        inside_is file (record_of w x) (record-long w long x (omega (arith, v, r.few))) (r.used x v))

    go : (c : Bool) → length (cond c (laid (lastly d (patches w)) own) whole) ≡ file
    go true = laid-long (all_drop (length (patches w) - d) each) own b
    go false = a
