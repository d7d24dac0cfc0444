-- Copies are the blocks of a row behind its head: one changed, or some; and a table with copies of one file changed.
use mathlib.Core.Path.{◌≡◌, refl, ◌∙◌, ap}
use mathlib.Core.Bool.{Bool, true, false, not, cond}
use mathlib.Core.List.{List}
use Prim.Native.Nat.{ℕ, zero, suc, ◌+◌, ◌*◌, ◌^◌, ◌≤◌, ◌<◌}
use native.Mathlib.Nat.{mul-le-mul_right}
use native.Mathlib.Omega.{arith}
use lib.ListN.{length}
use Rattle.sets.specs.Upto.{Within}
use Rattle.octets.specs.Bytes.{part}
use Rattle.blocks.proofs.BlockLaws.{length-stays, head-stays, block_same, block-other, Altered, blocks-changed}
use Rattle.fields.specs.declared.Laid.{Laid}
use Rattle.fields.specs.Layout.{get, name, link, epoch, county, list, reserved, file_length, copy_length, stride, copy_in, in_copy, in_copies, copy_bytes, used_of, files_of, file_length_of, row_bytes}
use Rattle.fields.proofs.FieldLaws.{copy-length, copy-behind, head-get, head-reserved, stride-is, row-newest}
use Rattle.table.proofs.FormLaws.{Formed, rows-room}
use Rattle.table.proofs.TableLaws.{row-long, Changed, like-get}
use Rattle.protocol.specs.Rows.{marked_copy, enrolled_row, checked_row}
use Rattle.protocol.proofs.RowLaws.{head_kit, HeadBecomes, fields_of, changed, relisted, list_in, becomes-list, becomes-reserved, becomes-county, marked-copy, enrolled-row}
use Rattle.protocol.proofs.FrameLaws.{SameFrame, KeepsFrame, frame-of}

-- every byte of the head stays
abbrev pub SameHead : List ℕ → List ℕ → Type 0
SameHead row new = (b m : ℕ) → b + m ≤ 32 → part b m new ≡ part b m row

-- ---- one row
pub record OneCopy (file : ℕ) (row : List ℕ) (q : ℕ) (f : List ℕ → List ℕ) (new : List ℕ) : Type 0 where
  pub long : length new ≡ length row
  pub head : SameHead row new
  pub named : copy_in file q new ≡ f (copy_in file q row)
  pub others : (p : ℕ) → (p ≡ q → ⊥) → copy_in file p new ≡ copy_in file p row

-- a row after a check
pub record CheckedRow (files file : ℕ) (row new : List ℕ) (good : ℕ → Bool) (v : ℕ → ℕ) (e : ℕ) (l : Laid) : Type 0 where
  pub long : length new ≡ length row
  pub keeps : KeepsFrame row new
  pub epoch : get epoch new ≡ e
  pub list : list new ≡ l
  pub spare : reserved new ≡ reserved row
  pub copies : (q : ℕ) → Within files q → copy_in file q new ≡ cond (good q) (copy_in file q row) (marked_copy (v q) (copy_in file q row))

module _ (files file : ℕ) (row : List ℕ) (long : length row ≡ stride files file) where
  room : 32 + files * copy_length file ≤ length row
  room = omega (arith, long, stride-is files file)

  pub one-copy : (q : ℕ) → Within files q → (f : List ℕ → List ℕ) → length (f (copy_in file q row)) ≡ copy_length file → OneCopy file row q f (in_copy file q f row)
  unfolding in_copy copy_in
  one-copy zero v f keeps = absurd (omega arith)
  one-copy (suc k) v f keeps =
      let r : 32 + suc k * copy_length file ≤ length row = omega (arith, room, mul-le-mul_right {m = suc k} {n = files} (copy_length file) v.1) in
      record {
        long = length-stays 32 (copy_length file) row k r f keeps;
        head = head-stays 32 (copy_length file) row k r f keeps;
        named = block_same 32 (copy_length file) row k r f keeps;
        others = block-other 32 (copy_length file) row k r f keeps;
      }

  pub checked-row : (good : ℕ → ℕ → Bool) (v : ℕ → ℕ) (e : ℕ) (l : Laid) (i : ℕ) → ((q : ℕ) → Within files q → v q < 256 ^ 4) → e < 256 ^ 4 → l.members < 256 ^ 8 → l.mark < 256 ^ 1
      → CheckedRow files file row (checked_row files file good v e l i row) (λ q. good q i) v e l
  unfolding checked_row in_copies copy_in relisted changed fields_of head_kit name link county list_in
  checked-row good v e l i small he hl hm = record {
    long = b.long ∙ A.long;
    keeps = record {
      name = b.fields 1 (omega arith) ∙ head-get row mid A.head name (omega arith);
      link = b.fields 2 (omega arith) ∙ head-get row mid A.head link (omega arith);
      county = becomes-county b ∙ head-get row mid A.head county (omega arith);
    };
    epoch = b.fields 3 (omega arith);
    list = becomes-list b;
    spare = becomes-reserved b ∙ head-reserved row mid A.head;
    copies = λ q w. copy-behind file q mid (enrolled_row e l mid) 25 (omega arith) b.behind ∙ A.blocks q w ∙ turned (good q i) _ _;
  }
    where
      mid : List ℕ
      mid = in_copies files file (λ q. not (good q i)) (λ q. marked_copy (v q)) row

      A : Altered 32 (copy_length file) row mid files (λ q. not (good q i)) (λ q. marked_copy (v q))
      A = blocks-changed 32 (copy_length file) row (λ q. not (good q i)) (λ q. marked_copy (v q)) files room (λ q w m. (marked-copy file (copy_in file q row) (copy-length files file row long q w) (v q) (small q w)).long ∙ copy-length files file row long q w)

      b : HeadBecomes mid (enrolled_row e l mid) (relisted (changed (fields_of head_kit mid) 3 e) l)
      b = enrolled-row mid e l (omega (arith, A.long, room)) he hl hm

      turned : (x : Bool) (y z : List ℕ) → cond (not x) y z ≡ cond x z y
      turned true y z = refl
      turned false y z = refl

-- ---- a table
-- a table after a call: u is t with the rows of s changed; names, links and counties stay
pub record Leaves (t u : List ℕ) (s : ℕ → Bool) : Type 0 where
  pub how : ℕ → List ℕ → List ℕ
  pub change : Changed t u (used_of t) s how
  pub frame : SameFrame t u
  pub out : (i : ℕ) → Within (used_of t) i → s i ≡ false → row_bytes u i ≡ row_bytes t i

pub row-length : (t : List ℕ) → Formed t → (i : ℕ) → Within (used_of t) i → length (row_bytes t i) ≡ stride (files_of t) (file_length_of t)
row-length t w i u = row-long t (used_of t) (rows-room t w) i u ∙ row-newest t w.newest

pub copy-long : (t : List ℕ) → Formed t → (i q : ℕ) → Within (used_of t) i → Within (files_of t) q → length (copy_bytes t q i) ≡ copy_length (file_length_of t)
unfolding copy_bytes
copy-long t w i q u v = copy-length (files_of t) (file_length_of t) (row_bytes t i) (row-length t w i u) q v

pub changed_row : {t u : List ℕ} {s : ℕ → Bool} {n : ℕ} {g : ℕ → List ℕ → List ℕ} → Changed t u n s g → (i : ℕ) → Within n i → s i ≡ true → row_bytes u i ≡ g i (row_bytes t i)
changed_row {t} {u} {s} {n} {g} c i w m = c.rows i w ∙ ap (λ (x : Bool). cond x (g i (row_bytes t i)) (row_bytes t i)) m

pub leaves_of : (t u : List ℕ) (s : ℕ → Bool) (g : ℕ → List ℕ → List ℕ) → Changed t u (used_of t) s g
    → ((i : ℕ) → Within (used_of t) i → s i ≡ true → KeepsFrame (row_bytes t i) (g i (row_bytes t i)))
    → Leaves t u s
leaves_of t u s g c b = record {
  how = g;
  change = c;
  frame = frame-of c b;
  out = λ i w m. c.rows i w ∙ ap (λ (x : Bool). cond x (g i (row_bytes t i)) (row_bytes t i)) m;
}

-- u is t but for copies of file q in rows of s: every head and the other files' copies stay
pub record OnlyCopies (t u : List ℕ) (q : ℕ) (s : ℕ → Bool) (g : ℕ → List ℕ → List ℕ) : Type 0 where
  pub heads : (i : ℕ) → Within (used_of t) i → SameHead (row_bytes t i) (row_bytes u i)
  pub named : (i : ℕ) → Within (used_of t) i → s i ≡ true → copy_bytes u q i ≡ g i (copy_bytes t q i)
  pub others : (i p : ℕ) → Within (used_of t) i → (p ≡ q → ⊥) → copy_bytes u p i ≡ copy_bytes t p i
  pub leaves : Leaves t u s

-- the length of the file stays
pub same_copy : {t u : List ℕ} {s : ℕ → Bool} {n : ℕ} {g : ℕ → List ℕ → List ℕ} → Changed t u n s g → (q i : ℕ) → copy_bytes u q i ≡ copy_in (file_length_of t) q (row_bytes u i)
unfolding copy_bytes file_length_of file_length
same_copy {t} {u} c q i = ap (λ (f : ℕ). copy_in f q (row_bytes u i)) (like-get c.like file_length (omega arith))

pub out-copy : {t u : List ℕ} {s : ℕ → Bool} → Leaves t u s → (i q : ℕ) → Within (used_of t) i → s i ≡ false → copy_bytes u q i ≡ copy_bytes t q i
unfolding copy_bytes
out-copy {t} l i q u m = same_copy l.change q i ∙ ap (copy_in (file_length_of t) q) (l.out i u m)

module _ (t u : List ℕ) (q : ℕ) (s : ℕ → Bool) (g : ℕ → List ℕ → List ℕ) (w : Formed t) (v : Within (files_of t) q)
    (c : Changed t u (used_of t) s (λ i. in_copy (file_length_of t) q (g i)))
    (keeps : (i : ℕ) → Within (used_of t) i → s i ≡ true → length (g i (copy_bytes t q i)) ≡ copy_length (file_length_of t)) where
  one : (i : ℕ) → Within (used_of t) i → s i ≡ true → OneCopy (file_length_of t) (row_bytes t i) q (g i) (in_copy (file_length_of t) q (g i) (row_bytes t i))
  unfolding copy_bytes
  one i x m = one-copy (files_of t) (file_length_of t) (row_bytes t i) (row-length t w i x) q v (g i) (keeps i x m)

  at : (P : List ℕ → Type 0) (i : ℕ) → Within (used_of t) i → (s i ≡ true → P (in_copy (file_length_of t) q (g i) (row_bytes t i))) → (s i ≡ false → P (row_bytes t i)) → P (row_bytes u i)
  at P i x a b = rw (c.rows i x) (go (s i) refl)
    where
      go : (y : Bool) → s i ≡ y → P (cond y (in_copy (file_length_of t) q (g i) (row_bytes t i)) (row_bytes t i))
      go true m = a m
      go false m = b m

  pub only-copies : OnlyCopies t u q s g
  unfolding copy_bytes name link county
  only-copies = record {
    heads = λ i x. at (λ (row : List ℕ). SameHead (row_bytes t i) row) i x (λ m. (one i x m).head) (λ m b n h. refl);
    named = λ i x m. same_copy c q i ∙ ap (copy_in (file_length_of t) q) (changed_row c i x m) ∙ (one i x m).named;
    others = λ i p x d. same_copy c p i ∙ at (λ (row : List ℕ). copy_in (file_length_of t) p row ≡ copy_in (file_length_of t) p (row_bytes t i)) i x (λ m. (one i x m).others p d) (λ m. refl);
    leaves = leaves_of t u s (λ i. in_copy (file_length_of t) q (g i)) c (λ i x m. record {
      name = head-get (row_bytes t i) _ (one i x m).head name (omega arith);
      link = head-get (row_bytes t i) _ (one i x m).head link (omega arith);
      county = head-get (row_bytes t i) _ (one i x m).head county (omega arith);
    });
  }
