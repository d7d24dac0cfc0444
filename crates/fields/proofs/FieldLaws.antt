-- Fields: what was stored is read back; other fields, the bytes that hold nothing and the contents stay; the length stays. A row's length, and its copies.
use mathlib.Core.Path.{◌≡◌, refl, sym, ◌∙◌, ap, ap₂}
use mathlib.Core.Logic.{◌⊎◌, inl, inr}
use mathlib.Core.Bool.{Bool, true, false, cond}
use mathlib.Core.List.{List, ◌++◌, append-nil}
use Prim.Native.Nat.{ℕ, zero, suc, ◌+◌, ◌-◌, ◌*◌, ◌^◌, ◌≤◌, ◌<◌}
use native.Mathlib.Nat.{mul-le-mul, mul-le-mul_right}
use native.Mathlib.Omega.{arith}
use lib.Dec.{leb}
use lib.ListN.{length, take, drop}
use lib.Seq.{drop_at, drop-drop, drop-length, length-take-le}
use borrow.Author.Tests.{eqb-true, eq-eqb, le-leb, lt-leb, leb-true, leb-false}
use Rattle.bools.proofs.BoolLaws.{and_i, and_l, and_r}
use Rattle.sets.specs.Upto.{Within}
use Rattle.octets.specs.Bytes.{number, bytes_of, part, put, zeros, all_zero}
use Rattle.fields.specs.declared.Laid.{Laid}
use Rattle.fields.specs.contracts.LaidPartialEq.TheImpl.{ghosts}
use Rattle.blocks.specs.Blocks.{block}
use Rattle.blocks.proofs.BlockLaws.{length-block}
use Rattle.fields.specs.Layout.{Field, get, store, mark, oldest, spare, version, desired, members, grid_mark, list, no_list, row_bytes, list_of, reserved, contents, store_contents, records, store_records, form_value, copy_length, copy_in, copy_of, body_in, stride_in, body_length, stride, form_of, file_length_of, files_of, file_count, row_length}
use Rattle.octets.proofs.ByteLaws.{length-bytes, number-bytes, length_part, length-put, part-put, part_apart, drop-put-after, part-put-in, length-zeros, first-zeros, split-zeros}

-- the bytes of f end by place n
abbrev pub Ends : Field → ℕ → Type 0
Ends f n = f.place + f.width ≤ n

-- the bytes of f and those from a to b lie apart
abbrev pub Apart : Field → ℕ → ℕ → Type 0
Apart f a b = (f.place + f.width ≤ a) ⊎ (b ≤ f.place)

-- ---- a number stored in field f
module _ (f : Field) (v : ℕ) (xs : List ℕ) (h : Ends f (length xs)) where
  stored-fits : f.place + length (bytes_of f.width v) ≤ length xs
  stored-fits = rw (length-bytes f.width v) h

  pub length-store : length (store f v xs) ≡ length xs
  unfolding store
  length-store = length-put xs f.place (bytes_of f.width v) stored-fits

  pub stored_bytes : part f.place f.width (store f v xs) ≡ bytes_of f.width v
  unfolding store
  stored_bytes =
      ap (λ (k : ℕ). part f.place k (put f.place (bytes_of f.width v) xs)) (sym (length-bytes f.width v))
      ∙ part-put xs f.place (bytes_of f.width v) stored-fits

  pub get-store : v < 256 ^ f.width → get f (store f v xs) ≡ v
  unfolding get
  get-store l = ap number stored_bytes ∙ number-bytes f.width v l

  pub part-store : (a n : ℕ) → (a + n ≤ f.place) ⊎ (f.place + f.width ≤ a) → part a n (store f v xs) ≡ part a n xs
  unfolding store
  part-store a n (inl q) = part_apart xs f.place (bytes_of f.width v) stored-fits a n (inl q)
  part-store a n (inr q) = part_apart xs f.place (bytes_of f.width v) stored-fits a n (inr (rw (length-bytes f.width v) q))

  pub get_other : (g : Field) → Apart g f.place (f.place + f.width) → get g (store f v xs) ≡ get g xs
  unfolding get
  get_other g q = ap number (part-store g.place g.width q)

  pub drop-store : (b : ℕ) → f.place + f.width ≤ b → drop b (store f v xs) ≡ drop b xs
  unfolding store
  drop-store b q = drop-put-after xs f.place (bytes_of f.width v) stored-fits b (rw (length-bytes f.width v) q)

  -- a field before the head's bytes that hold nothing
  pub reserved-store : f.place + f.width ≤ 3 → reserved (store f v xs) ≡ reserved xs
  unfolding reserved
  reserved-store q = ap₂ (λ (x y : List ℕ). x ++ y) (part-store 3 9 (inr q)) (ap₂ (λ (x y : List ℕ). x ++ y) (part-store 25 1 (inr (omega arith))) (part-store 27 5 (inr (omega arith))))

  -- a field of a copy
  pub contents-store : f.place + f.width ≤ 12 → contents (store f v xs) ≡ contents xs
  unfolding contents
  contents-store q = ap (λ (n : ℕ). part 12 (n - 588) (store f v xs)) length-store ∙ part-store 12 (length xs - 588) (inr q)

  pub records-store : f.place + f.width ≤ 12 → 588 ≤ length xs → records (store f v xs) ≡ records xs
  unfolding records
  records-store q l = ap (λ (n : ℕ). drop (n - 576) (store f v xs)) length-store ∙ drop-store (length xs - 576) (omega arith)

-- ---- bytes stored in the contents of a copy
module _ (offset : ℕ) (p xs : List ℕ) (room : 588 + offset + length p ≤ length xs) where
  h : 12 + offset + length p ≤ length xs
  h = omega arith

  pub length-contents : length (store_contents offset p xs) ≡ length xs
  unfolding store_contents
  length-contents = length-put xs (12 + offset) p h

  pub part-contents : (a n : ℕ) → a + n ≤ 12 → part a n (store_contents offset p xs) ≡ part a n xs
  unfolding store_contents
  part-contents a n q = part_apart xs (12 + offset) p h a n (inl (omega arith))

  pub get-contents : (g : Field) → Ends g 12 → get g (store_contents offset p xs) ≡ get g xs
  unfolding get
  get-contents g q = ap number (part-contents g.place g.width q)

  -- the patch is laid over the contents
  pub contents-contents : contents (store_contents offset p xs) ≡ put offset p (contents xs)
  unfolding contents store_contents
  contents-contents = ap (λ (n : ℕ). part 12 (n - 588) (store_contents offset p xs)) length-contents ∙ part-put-in 12 (length xs - 588) offset p xs (omega arith) (omega arith)

  pub records-contents : records (store_contents offset p xs) ≡ records xs
  unfolding records store_contents
  records-contents = ap (λ (n : ℕ). drop (n - 576) (store_contents offset p xs)) length-contents ∙ drop-put-after xs (12 + offset) p h (length xs - 576) (omega arith)

-- ---- other records of a copy
module _ (b xs : List ℕ) (l : length b ≡ 576) (room : 588 ≤ length xs) where
  records-fit : length xs - 576 + length b ≤ length xs
  records-fit = omega arith

  pub length-records : length (store_records b xs) ≡ length xs
  unfolding store_records
  length-records = length-put xs (length xs - 576) b records-fit

  pub part-records : (a n : ℕ) → a + n ≤ length xs - 576 → part a n (store_records b xs) ≡ part a n xs
  unfolding store_records
  part-records a n q = part_apart xs (length xs - 576) b records-fit a n (inl q)

  pub get-records : (g : Field) → Ends g 12 → get g (store_records b xs) ≡ get g xs
  unfolding get
  get-records g q = ap number (part-records g.place g.width (omega arith))

  pub contents-records : contents (store_records b xs) ≡ contents xs
  unfolding contents
  contents-records = ap (λ (n : ℕ). part 12 (n - 588) (store_records b xs)) length-records ∙ part-records 12 (length xs - 588) (omega arith)

  pub records-records : records (store_records b xs) ≡ b
  unfolding records store_records put
  records-records = ap (λ (n : ℕ). drop (n - 576) (store_records b xs)) length-records
      ∙ drop_at (take (length xs - 576) xs) (b ++ drop (length xs - 576 + length b) xs) (length xs - 576) (length-take-le (length xs - 576) xs (omega arith))
      ∙ ap (λ (n : ℕ). b ++ drop n xs) e ∙ ap (λ (l : List ℕ). b ++ l) (drop-length xs) ∙ append-nil b
    where
      e : length xs - 576 + length b ≡ length xs
      e = omega arith

-- ---- lists
laid : ℕ → ℕ → Laid
laid m g = record { members = m; mark = g }

-- lists that say the same are the same
pub laid_same : (a b : Laid) → a.members ≡ b.members → a.mark ≡ b.mark → a ≡ b
unfolding laid
laid_same a b e q = ap₂ laid e q

-- what `==` compares
unfoldable pub equal : Laid → Laid → Bool
equal = ghosts.eq

-- lists are equal to the code exactly where they are the same
pub equal-same : (a b : Laid) → (equal a b ≡ true → a ≡ b) × (a ≡ b → equal a b ≡ true)
unfolding equal
equal-same a b = (λ e. laid_same a b (eqb-true _ _ (and_l _ _ e)) (eqb-true _ _ (and_r _ _ e)), λ e. rw e (and_i _ _ (eq-eqb b.members b.members refl) (eq-eqb b.mark b.mark refl)))

-- a row whose fields say what a list says has that list
pub list-is : (row : List ℕ) (l : Laid) → get members row ≡ l.members → get grid_mark row ≡ l.mark → list row ≡ l
unfolding list
list-is row l e q = laid_same (list row) l e q

-- ---- a row's length and what it has room for: no other law opens a row's body
-- the longest row, of eight files of 4,096 bytes
abbrev pub widest : ℕ
widest = 37_504

-- before form 4 a row has room for head and contents, and no more than for the records besides
pub body-in : (f files file : ℕ) → f < 4 → (file ≤ body_in f files file) × (body_in f files file ≤ file + 576)
unfolding body_in
body-in f files file h = rw (lt-leb 4 f h) (go (leb 3 f))
  where
    go : (b : Bool) → (file ≤ cond b (file + 576) file) × (cond b (file + 576) file ≤ file + 576)
    go true = omega arith
    go false = omega arith

-- from then on for a copy of each file
pub body-late : (f files file : ℕ) → 4 ≤ f → body_in f files file ≡ files * copy_length file
unfolding body_in
body-late f files file h = rw (le-leb 4 f h)

pub copy_is : (file : ℕ) → copy_length file ≡ 588 + file
unfolding copy_length
copy_is file = omega arith

copies-most : {files file : ℕ} → files ≤ 8 → file ≤ 4_096 → files * copy_length file ≤ 8 * 4_684
copies-most {files} {file} few h = mul-le-mul few (let l : copy_length file ≤ 4_684 = omega (arith, copy_is file) in l)

stride_most : (f : ℕ) {files file : ℕ} → files ≤ 8 → file ≤ 4_096 → stride_in f files file ≤ widest
unfolding stride_in
stride_most f {files} {file} few h = go (leb 4 f) refl
  where
    go : (b : Bool) → leb 4 f ≡ b → 32 + body_in f files file ≤ widest
    go true e = omega (arith, body-late f files file (leb-true 4 f e), copies-most few h)
    go false e = omega (arith, body-in f files file (leb-false 4 f e))

-- no product of the code is large
pub rows-small : (f : ℕ) {k files file : ℕ} → k ≤ 64 → files ≤ 8 → file ≤ 4_096 → k * stride_in f files file ≤ 64 * widest
rows-small f few g h = mul-le-mul few (stride_most f g h)

pub head-room : (t : List ℕ) → 32 ≤ row_length t
unfolding row_length stride_in
head-room t = omega arith

-- before form 3 there are no records
pub stride-early : (f files file : ℕ) → f < 3 → stride_in f files file ≡ 32 + file
unfolding stride_in body_in
stride-early f files file h = rw (lt-leb 4 f (omega arith), lt-leb 3 f h)

-- in form 3 they stand behind the contents of the one file
pub stride-third : (files file : ℕ) → stride_in 3 files file ≡ 608 + file
unfolding stride_in body_in
stride-third files file = omega arith

-- from form 4 on a row is as long as in the newest form
pub stride-late : (f files file : ℕ) → 4 ≤ f → stride_in f files file ≡ stride files file
unfolding stride stride_in body_length body_in form_value
stride-late f files file h = rw (le-leb 4 f h)

pub stride-is : (files file : ℕ) → stride files file ≡ 32 + files * copy_length file
unfolding stride body_length body_in form_value
stride-is files file = refl

pub body_is : (files file : ℕ) → body_length files file ≡ files * copy_length file
unfolding body_length body_in form_value
body_is files file = refl

pub row-newest : (t : List ℕ) → form_of t ≡ form_value → row_length t ≡ stride (files_of t) (file_length_of t)
unfolding row_length stride_in stride body_length
row-newest t e = ap (λ (f : ℕ). stride_in f (files_of t) (file_length_of t)) e

-- before form 4 a table is of one file, in the newest form of as many as its header says
pub files-former : (t : List ℕ) → form_of t < 4 → files_of t ≡ 1
unfolding files_of
files-former t h = rw (lt-leb 4 (form_of t) h)

pub files-newest : (t : List ℕ) → form_of t ≡ form_value → files_of t ≡ get file_count t
unfolding files_of form_value
files-newest t e = rw e

-- ---- the contents of a copy are as long as the file
pub contents-part : (copy : List ℕ) (file : ℕ) → length copy ≡ copy_length file → contents copy ≡ part 12 file copy
unfolding contents
contents-part copy file e = let n : length copy - 588 ≡ file = omega (arith, copy_is file) in rw n

pub contents-long : (copy : List ℕ) (file : ℕ) → length copy ≡ copy_length file → length (contents copy) ≡ file
contents-long copy file e = ap length (contents-part copy file e) ∙ length_part 12 file copy (omega (arith, copy_is file))

-- ---- the copies of a row are the blocks behind its head
module _ (files file : ℕ) (row : List ℕ) (long : length row ≡ stride files file) where
  copies-room : 32 + files * copy_length file ≤ length row
  copies-room = omega (arith, long, stride-is files file)

  pub copy-length : (q : ℕ) → Within files q → length (copy_in file q row) ≡ copy_length file
  unfolding copy_in
  copy-length q v = length-block 32 (copy_length file) row files copies-room q v

  pub copy-room : (q : ℕ) → Within files q → length (copy_in file q row) ≡ 588 + file
  copy-room q v = copy-length q v ∙ copy_is file

-- in the newest form
pub copy-newest : (file q : ℕ) (row : List ℕ) → copy_of form_value file q row ≡ copy_in file q row
unfolding copy_of form_value
copy-newest file q row = refl

-- what stands from byte b on decides the copies, where b is in the head
pub copy-behind : (file q : ℕ) (row new : List ℕ) (b : ℕ) → b ≤ 32 → drop b new ≡ drop b row → copy_in file q new ≡ copy_in file q row
unfolding copy_in block part
copy-behind file zero row new b h e = refl
copy-behind file (suc k) row new b h e =
    let s : 32 + k * copy_length file ≡ b + (32 - b + k * copy_length file) = omega arith in
    let from : (xs : List ℕ) → drop (32 + k * copy_length file) xs ≡ drop (32 - b + k * copy_length file) (drop b xs) = λ xs. ap (λ (m : ℕ). drop m xs) s ∙ sym (drop-drop (32 - b + k * copy_length file) b xs) in
    ap (take (copy_length file)) (from new ∙ ap (drop (32 - b + k * copy_length file)) e ∙ sym (from row))

-- ---- a row whose head stays
module _ (row new : List ℕ) (same : (b m : ℕ) → b + m ≤ 32 → part b m new ≡ part b m row) where
  pub head-get : (f : Field) → Ends f 32 → get f new ≡ get f row
  unfolding get
  head-get f h = ap number (same f.place f.width h)

  pub head-reserved : reserved new ≡ reserved row
  unfolding reserved
  head-reserved = ap₂ (λ (x y : List ℕ). x ++ y) (same 3 9 (omega arith)) (ap₂ (λ (x y : List ℕ). x ++ y) (same 25 1 (omega arith)) (same 27 5 (omega arith)))

  pub head-list : list new ≡ list row
  unfolding list members grid_mark
  head-list = laid_same (list new) (list row) (head-get members (omega arith)) (head-get grid_mark (omega arith))

-- ---- a copy of zeros, and a row of zeros behind its head
zeros-behind : (k n : ℕ) → k ≤ n → drop k (zeros n) ≡ zeros (n - k)
zeros-behind k n h = let e : n ≡ k + (n - k) = omega arith in ap (λ (m : ℕ). drop k (zeros m)) e ∙ ap (drop k) (split-zeros k (n - k)) ∙ drop_at (zeros k) (zeros (n - k)) k (length-zeros k)

zeros-part : (a m n : ℕ) → a + m ≤ n → part a m (zeros n) ≡ zeros m
unfolding part
zeros-part a m n h = ap (take m) (zeros-behind a n (omega arith)) ∙ first-zeros m (n - a) (omega arith)

pub zero-copies : (files file : ℕ) (row : List ℕ) → drop 32 row ≡ zeros (body_length files file) → (q : ℕ) → Within files q → copy_in file q row ≡ zeros (copy_length file)
unfolding copy_in block part
zero-copies files file row e zero v = absurd (omega arith)
zero-copies files file row e (suc k) v =
    let l : k * copy_length file + copy_length file ≤ body_length files file = omega (arith, body_is files file, mul-le-mul_right {m = suc k} {n = files} (copy_length file) v.1) in
    ap (take (copy_length file)) (sym (drop-drop (k * copy_length file) 32 row) ∙ ap (drop (k * copy_length file)) e) ∙ zeros-part (k * copy_length file) (copy_length file) (body_length files file) l

-- what it says: nothing yet
pub record BlankCopy (file : ℕ) (copy : List ℕ) : Type 0 where
  pub mark : get mark copy ≡ 0
  pub oldest : get oldest copy ≡ 0
  pub version : get version copy ≡ 0
  pub desired : get desired copy ≡ 0
  pub spare : all_zero (spare copy) ≡ true
  pub contents : contents copy ≡ zeros file
  pub records : records copy ≡ zeros 576

pub blank-copy : (file : ℕ) → BlankCopy file (zeros (copy_length file))
unfolding get mark oldest version desired spare number contents records all_zero zeros
blank-copy file =
    let some : (a m : ℕ) → a + m ≤ 588 → part a m (zeros (copy_length file)) ≡ zeros m = λ a m h. zeros-part a m (copy_length file) (omega (arith, copy_is file)) in
    let n : length (zeros (copy_length file)) ≡ 588 + file = length-zeros (copy_length file) ∙ copy_is file in
    let c : 588 + file - 588 ≡ file = omega arith in
    let r : copy_length file - (588 + file - 576) ≡ 576 = omega (arith, copy_is file) in
    record {
      mark = ap number (some 0 1 (omega arith));
      oldest = ap number (some 1 1 (omega arith));
      version = ap number (some 4 4 (omega arith));
      desired = ap number (some 8 4 (omega arith));
      spare = ap all_zero (some 2 2 (omega arith));
      contents = rw (n, c) (zeros-part 12 file (copy_length file) (omega (arith, copy_is file)));
      records = rw n (zeros-behind (588 + file - 576) (copy_length file) (omega (arith, copy_is file)) ∙ ap zeros r);
    }

-- there is no row 0
pub no-row-no-list : (t : List ℕ) → list_of t 0 ≡ no_list
unfolding list_of list no_list row_bytes block members grid_mark get number part
no-row-no-list t = refl
