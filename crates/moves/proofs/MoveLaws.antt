-- A move, as the code goes through it, over plain variables.
use mathlib.Core.Path.{◌≡◌, refl, sym, ◌∙◌, ap, ap₂}
use mathlib.Core.Bool.{Bool, true, false, not, cond, ◌&&◌, ◌||◌}
use mathlib.Core.Logic.{⊎_elim}
use mathlib.Core.List.{List, [], ◌++◌, append-nil, append_assoc}
use Prim.Native.Nat.{ℕ, suc, ◌+◌, ◌-◌, ◌*◌, ◌^◌, ◌≤◌, ◌<◌}
use native.Mathlib.Nat.{mul-le-mul_right}
use native.Mathlib.Numerals.{add-one}
use native.Mathlib.Omega.{arith}
use lib.Dec.{eqb}
use lib.ListN.{length, take, drop, length-append, length-drop}
use lib.Seq.{take-append-add, take_all, take_at, drop_at, drop-length, length-take-le}
use Rattle.octets.specs.Bytes.{bytes_of, part, put, zeros}
use Rattle.octets.proofs.ByteLaws.{length-bytes, length_part, part-front, part-part, bytes-zero}
use Rattle.blocks.specs.Blocks.{block, in_turn}
use Rattle.fields.specs.Layout.{store, former_oldest, body_in, stride_in, form_of, capacity_of, used_of, file_length_of, files_of, row_length, rows_end, row_bytes}
use Rattle.fields.proofs.FieldLaws.{body-in, rows-small}
use Rattle.table.specs.WellFormed.{own_form}
use Rattle.table.specs.Asked.{Sized}
use Rattle.table.proofs.WellFormedLaws.{header, length-is}
use Rattle.asking.specs.Asking.{first_no}
use Rattle.carrying.specs.Moves.{goes_over, all_plain, carried_row, carried, carried_length}
use Rattle.protocol.specs.Calls.{Carrying, Outcome, carry, questions, done, refused, outcome, result_of, lent}
use Rattle.protocol.proofs.QuestionLaws.{refusal_is, when-done, when-refused}
use Rattle.carrying.proofs.RowLaws.{cleared-long}
use Rattle.carrying.proofs.CarryLaws.{row_to, row-to-long}
use Rattle.carrying.proofs.Formed.{over-is}

-- ---- a row
pub row_made : (new row x y : List ℕ) (end : ℕ) → 32 ≤ end → end ≤ length row → end ≤ length new → x ≡ store former_oldest 0 (take (end - 0) row)
    → y ≡ bytes_of (length (take (length (x ++ drop (end - 0) new) - end) (drop end (x ++ drop (end - 0) new)))) 0
    → take end (x ++ drop (end - 0) new) ++ (y ++ drop (length (x ++ drop (end - 0) new) - end) (drop end (x ++ drop (end - 0) new))) ≡ store former_oldest 0 (part 0 end row) ++ zeros (length new - end)
unfolding part
row_made new row x y end h hr hn ex ey =
    let z : end - 0 ≡ end = omega arith in
    let ex' : x ≡ store former_oldest 0 (take end row) = rw z at ex in
    let lx : length x ≡ end = ap length ex' ∙ cleared-long (take end row) (omega (arith, length-take-le end row hr)) ∙ length-take-le end row hr in
    made new row x y end lx ex' hn (rw z at ey) z
  where
    made : (new row x y : List ℕ) (end : ℕ) → length x ≡ end → x ≡ store former_oldest 0 (take end row) → end ≤ length new
        → y ≡ bytes_of (length (take (length (x ++ drop end new) - end) (drop end (x ++ drop end new)))) 0 → end - 0 ≡ end
        → take end (x ++ drop (end - 0) new) ++ (y ++ drop (length (x ++ drop (end - 0) new) - end) (drop end (x ++ drop (end - 0) new))) ≡ store former_oldest 0 (take end row) ++ zeros (length new - end)
    made new row x y end lx ex hn ey z =
        let d : drop end (x ++ drop end new) ≡ drop end new = drop_at x (drop end new) end lx in
        let ld : length (drop end new) ≡ length new - end = length-drop end new in
        let n : length (x ++ drop end new) - end ≡ length new - end = omega (arith, length-append x (drop end new)) in
        let yz : y ≡ zeros (length new - end) =
        ey ∙ ap (λ (k : ℕ). bytes_of (length (take k (drop end (x ++ drop end new)))) 0) n ∙ ap (λ (l : List ℕ). bytes_of (length (take (length new - end) l)) 0) d
        ∙ ap (λ (l : List ℕ). bytes_of (length l) 0) (take_all (length new - end) (drop end new) (omega arith)) ∙ bytes-zero (length (drop end new)) ∙ ap zeros ld in
        let gone : drop (length new - end) (drop end new) ≡ [] = ap (λ (k : ℕ). drop k (drop end new)) (sym ld) ∙ drop-length (drop end new) in
        rw (z, n, d, take_at x (drop end new) end lx, gone, yz) (ap₂ (λ (a b : List ℕ). a ++ b) ex (append-nil (zeros (length new - end))))

-- ---- the header
first-and : (p q : List ℕ) (m n : ℕ) → length p ≡ m → take (m + n) (p ++ q) ≡ p ++ take n q
first-and p q m n e = ap (λ (k : ℕ). take (k + n) (p ++ q)) (sym e) ∙ take-append-add p q n

pub head-made : (dest t x last : List ℕ) (form : ℕ) → 16 ≤ length dest → 16 ≤ length t → x ≡ take 16 t → last ≡ put 0 (bytes_of 1 form) (x ++ drop 16 dest) → take 16 last ≡ bytes_of 1 form ++ part 1 15 t
unfolding put part bytes_of
head-made dest t x last form hd ht ex el =
    let p = length-bytes 1 form in
    let lx : length x ≡ 16 = ap length ex ∙ length-take-le 16 t ht in
    let inside : take 15 (drop 1 (x ++ drop 16 dest)) ≡ take 15 (drop 1 t) = part-front 1 15 x (drop 16 dest) (omega arith) ∙ ap (λ (l : List ℕ). take 15 (drop 1 l)) ex ∙ part-part 0 16 1 15 t (omega arith) in
    ap (take 16) (el ∙ ap (λ (k : ℕ). bytes_of 1 form ++ drop k (x ++ drop 16 dest)) p) ∙ first-and (bytes_of 1 form) (drop 1 (x ++ drop 16 dest)) 1 15 p ∙ ap (λ (l : List ℕ). bytes_of 1 form ++ l) inside

length-part-at : (a n : ℕ) (xs : List ℕ) → a + n ≤ length xs → length (take n (drop a xs)) ≡ n
unfolding part
length-part-at a n xs h = length_part a n xs h

-- ---- one row more: row k + 1 of t goes from there to there, in rows of these lengths
pub record Turn (t : List ℕ) (form k size width end from to : ℕ) (dest : List ℕ) : Type 0 where
  pub sized : Sized t
  pub former : form_of t < 4
  pub low : form < 4
  pub below : k < capacity_of t
  pub size_is : size ≡ row_length t
  pub width_is : width ≡ stride_in form 1 (file_length_of t)
  pub end_is : end ≡ 32 + file_length_of t
  pub from_is : from ≡ rows_end t k
  pub to_is : to ≡ 16 + k * width
  pub room : length dest ≡ carried_length form t

module _ {t : List ℕ} {form k size width end from to : ℕ} {dest : List ℕ} (x : Turn t form k size width end from to dest) where
  pub from-fits : from + size ≤ length t
  unfolding rows_end
  from-fits = omega (arith, length-is x.sized, x.from_is, x.size_is, mul-le-mul_right {m = suc k} {n = capacity_of t} (row_length t) x.below)

  pub to-fits : to + width ≤ length dest
  unfolding carried_length
  to-fits = omega (arith, x.room, x.to_is, ap (λ (w : ℕ). k * w) x.width_is, x.width_is, mul-le-mul_right {m = suc k} {n = capacity_of t} (stride_in form 1 (file_length_of t)) x.below)

  pub end_fits : (32 ≤ end) × (end ≤ size) × (end ≤ width)
  unfolding row_length stride_in
  end_fits = omega (arith, x.end_is, x.size_is, x.width_is, body-in (form_of t) (files_of t) (file_length_of t) x.former, body-in form 1 (file_length_of t) x.low)

  slice : take ((from + size) - from) (drop from t) ≡ row_bytes t (suc k)
  unfolding row_bytes block part rows_end
  slice = let c : (from + size) - from ≡ size = omega arith in rw (c, x.from_is, x.size_is)

  pub from-long : length (take ((from + size) - from) (drop from t)) ≡ size
  from-long = let c : (from + size) - from ≡ size = omega arith in rw c (length-part-at from size t from-fits)

  pub to-long : length (take ((to + width) - to) (drop to dest)) ≡ width
  to-long = let c : (to + width) - to ≡ width = omega arith in rw c (length-part-at to width dest to-fits)

  module _ (new : List ℕ) (en : new ≡ store former_oldest 0 (part 0 end (take ((from + size) - from) (drop from t))) ++ zeros (length (take ((to + width) - to) (drop to dest)) - end)) where
    new_is : new ≡ row_to form t (suc k)
    unfolding carried_row stride_in
    new_is =
        let n : length (take ((to + width) - to) (drop to dest)) - end ≡ body_in form 1 (file_length_of t) - file_length_of t = omega (arith, to-long, x.width_is, x.end_is) in
        en ∙ ap₂ (λ (a : List ℕ) (b : ℕ). store former_oldest 0 a ++ zeros b) (ap₂ (λ (m : ℕ) (l : List ℕ). part 0 m l) x.end_is slice) n

    new-long : length new ≡ width
    new-long = ap length new_is ∙ row-to-long x.sized x.former form x.low (suc k) (omega (arith, x.below)) ∙ sym x.width_is

    pub row-turn : (head : List ℕ) → take to dest ≡ head ++ in_turn k (row_to form t) → take (to + width) (take to dest ++ (new ++ drop ((to + width) - to) (drop to dest))) ≡ head ++ in_turn (k + 1) (row_to form t)
    unfolding in_turn
    row-turn head e =
        let lt : length (take to dest) ≡ to = length-take-le to dest (omega (arith, to-fits)) in
        ap (take (to + width)) (sym (append_assoc (take to dest) new (drop ((to + width) - to) (drop to dest))))
        ∙ take_at (take to dest ++ new) (drop ((to + width) - to) (drop to dest)) (to + width) (length-append (take to dest) new ∙ omega (arith, new-long))
        ∙ ap₂ (λ (a b : List ℕ). a ++ b) e new_is ∙ append_assoc head (in_turn k (row_to form t)) (row_to form t (suc k))
        ∙ ap (λ (n : ℕ). head ++ in_turn n (row_to form t)) (sym (add-one k))

    pub turn-long : length (take to dest ++ (new ++ drop ((to + width) - to) (drop to dest))) ≡ length dest
    turn-long =
        let c : (to + width) - to ≡ width = omega arith in
        length-append (take to dest) (new ++ drop ((to + width) - to) (drop to dest))
        ∙ omega (arith, length-take-le to dest (omega (arith, to-fits)), length-append new (drop ((to + width) - to) (drop to dest)), new-long, length-drop ((to + width) - to) (drop to dest), length-drop to dest, to-fits)

pub to_end : (t : List ℕ) (form to k width : ℕ) (dest : List ℕ) → to ≡ 16 + k * width → k ≡ capacity_of t → width ≡ stride_in form 1 (file_length_of t) → length dest ≡ carried_length form t → length dest ≤ to
unfolding carried_length
to_end t form to k width dest et ek ew el = omega (arith, ap₂ (λ (a b : ℕ). a * b) ek ew)

-- all rows
pub all-carried : (t dest : List ℕ) (form to k : ℕ) → k ≡ capacity_of t → length dest ≤ to → take to dest ≡ (bytes_of 1 form ++ part 1 15 t) ++ in_turn k (row_to form t) → dest ≡ carried form t
unfolding carried
all-carried t dest form to k e h q = sym (take_all to dest h) ∙ q ∙ ap (λ (n : ℕ). (bytes_of 1 form ++ part 1 15 t) ++ in_turn n (row_to form t)) e ∙ append_assoc (bytes_of 1 form) (part 1 15 t) (in_turn (capacity_of t) (row_to form t))

-- ---- the questions by their answers
module _ (t : List ℕ) (a : Carrying) where
  pub carry-answers : (x y z : Bool) → own_form t ≡ x → (not (eqb a.form 1) || all_plain t) ≡ y → (goes_over (form_of t) a.form && eqb (length a.dest) (carried_length a.form t)) ≡ z
      → first_no (questions t (carry a)) ≡ cond x (cond y (cond z 0 12) 15) 1
  unfolding questions first_no
  carry-answers x y z ex ey ez = rw (ex, ey, ez) refl

  -- a move leaves the table as it is
  table_stays : t ≡ (outcome t (carry a)).table
  unfolding outcome done refused
  table_stays = go (eqb (first_no (questions t (carry a))) 0)
    where
      go : (b : Bool) → t ≡ (cond b (done t (carry a)) (refused t (carry a) (first_no (questions t (carry a))))).table
      go true = refl
      go false = refl

  pub carry-no : (n : ℕ) → first_no (questions t (carry a)) ≡ n → 1 ≤ n → (n * 2 ^ 32 + 0 ≡ result_of (outcome t (carry a))) × (t ≡ (outcome t (carry a)).table) × (a.dest ≡ (outcome t (carry a)).buffer)
  unfolding result_of lent
  carry-no n e h =
      let r : (outcome t (carry a)).refusal ≡ n = refusal_is t (carry a) ∙ e in
      let w = when-refused t (carry a) (λ z. omega (arith, r)) in
      (sym (ap₂ (λ (x y : ℕ). x * 2 ^ 32 + y) r w.0), table_stays, sym w.2)

  pub carry-done : (n : ℕ) (last : List ℕ) → first_no (questions t (carry a)) ≡ 0 → n ≡ used_of t → last ≡ carried a.form t → (0 * 2 ^ 32 + n ≡ result_of (outcome t (carry a))) × (t ≡ (outcome t (carry a)).table) × (last ≡ (outcome t (carry a)).buffer)
  unfolding done result_of
  carry-done n last h en el =
      let o = when-done t (carry a) (refusal_is t (carry a) ∙ h) in
      (ap (λ (i : ℕ). 0 * 2 ^ 32 + i) en ∙ sym (ap result_of o), table_stays, el ∙ sym (ap (λ (x : Outcome). x.buffer) o))

both_ways : (a b : Bool) → (not a || b) ≡ not (a && not b)
both_ways true true = refl
both_ways true false = refl
both_ways false b = refl

-- question 15, as it is asked
pub rough : (a b p r : Bool) → p ≡ b → r ≡ (a && not p) → (not a || b) ≡ not r
rough a b p r e q = both_ways a b ∙ ap not (ap (λ (x : Bool). a && not x) (sym e) ∙ sym q)

pub forms-small : (f to : ℕ) → goes_over f to ≡ true → (f < 4) × (to < 4)
forms-small f to e = ⊎_elim (λ w. omega (arith, w.0, w.1)) (λ w. omega (arith, w.0, w.1)) (over-is f to e)

pub end-long : (t : List ℕ) (form c w file : ℕ) → c ≡ capacity_of t → w ≡ stride_in form 1 file → file ≡ file_length_of t → 16 + c * w ≡ carried_length form t
unfolding carried_length
end-long t form c w file ec ew ef = ap₂ (λ (a b : ℕ). 16 + a * b) ec (ew ∙ ap (stride_in form 1) ef)

pub end-small : (t : List ℕ) → Sized t → (form c w file : ℕ) → c ≡ capacity_of t → w ≡ stride_in form 1 file → file ≡ file_length_of t → c * w ≤ 2_400_256
end-small t s form c w file ec ew ef =
    let h = header s.header in
    let one : 1 ≤ 8 = omega arith in
    let p : c * w ≡ capacity_of t * stride_in form 1 (file_length_of t) = ap₂ (λ (a b : ℕ). a * b) ec (ew ∙ ap (stride_in form 1) ef) in
    omega (arith, p, rows-small form {k = capacity_of t} {files = 1} {file = file_length_of t} h.capacity.1 one h.file.1)
