-- A round is its writes; demand 3 and fair use of lists, by what each act stands for.
use mathlib.Core.Path.{◌≡◌, refl, sym, ◌∙◌, ap, ap₂, subst, subst₂}
use mathlib.Core.Bool.{Bool, true, false, cond}
use mathlib.Core.List.{List, [], ◌∷◌, ◌++◌}
use Prim.Native.Nat.{ℕ, zero, suc, ◌+◌, ◌≤◌, ◌<◌}
use native.Mathlib.Nat.{zero-add}
use native.Mathlib.Omega.{arith}
use lib.Dec.{eqb}
use lib.ListN.{length}
use borrow.Author.Tests.{eq-eqb, ne_eqb}
use Rattle.asking.specs.Asking.{first_no}
use Rattle.sheet.specs.Sheet.{sum, count_of}
use Rattle.protocol.specs.Calls.{Call, founding, write, outcome}
use Rattle.history.specs.Book.{Book, opened, entered}
use Rattle.history.specs.Demand3.{AllRight, Demand3}
use Rattle.history.specs.Claims.{table_after, book_after, after}
use Rattle.history.proofs.Theorems.{demand-3}
use Rattle.sharing.specs.Shares.{LentIt, sheet_after, OneSheet, last_sheet, done_since, CountsSum}
use Rattle.sharing.proofs.ShareLaws.{counts-sum}
use Rattle.ordering.specs.declared.Order.{Order}
use Rattle.ordering.specs.Rounds.{writing, Round, empty_questions, none_done, round_of}
use Rattle.ordering.proofs.RoundLaws.{made, by_order}
use Rattle.entering.specs.Acts.{Act, single, round, writes_from, stands_for, table_by, calls_of, table_after_acts, ActsRight, LentTo, sheet_by, OneSheetActs, last_sheet_acts}
use Rattle.entering.specs.Claims.{done_in, last_refusal, Refused, by_last, by_none, by65th, ItsWrites, RoundIsItsWrites, RefusedByWrites, ActsAreCalls, ActsReach, Demand3WithRounds, CountsSumWithRounds}

-- ---- a round is its writes
-- the refusal of the orders after n done ones
data Stopped (t : List ℕ) (n : ℕ) (os : List Order) (x : Round) (ks : List Call) : Type 0 where
  last : x.refusal ≡ last_refusal t ks → Stopped t n os x ks
  many : 64 < n + length os → x.value ≡ 64 → x.refusal ≡ 4 → Stopped t n os x ks

-- what they leave, by the calls ks
record From (t s : List ℕ) (n : ℕ) (os : List Order) (x : Round) (ks : List Call) : Type 0 where
  pub table : x.table ≡ table_after t ks
  pub sheet : x.sheet ≡ last_sheet t s ks
  pub value : x.value ≡ n + done_in t ks
  pub refusal : Stopped t n os x ks

-- a done write before them
module _ (t s : List ℕ) (r n : ℕ) (o : Order) (os : List Order) (x : Round) (ks : List Call) (z : (made t s r o).refusal ≡ 0) where
  last_of : last_refusal t (write (writing r s o) ∷ ks) ≡ last_refusal (made t s r o).table ks
  unfolding last_refusal
  last_of = go ks
    where
      go : (ls : List Call) → last_refusal t (write (writing r s o) ∷ ls) ≡ last_refusal (made t s r o).table ls
      go [] = z
      go (l ∷ ls) = refl

  stops : Stopped (made t s r o).table (suc n) os x ks → Stopped t n (o ∷ os) x (write (writing r s o) ∷ ks)
  stops (last e) = last (e ∙ sym last_of)
  stops (many a b c) = many (omega arith) b c

  one_more : From (made t s r o).table (made t s r o).sheet (suc n) os x ks → From t s n (o ∷ os) x (write (writing r s o) ∷ ks)
  unfolding table_after last_sheet sheet_after done_in
  one_more f = record { table = f.table; sheet = f.sheet; value = rw z (omega (arith, f.value)); refusal = stops f.refusal }

pub round-is-its-writes : RoundIsItsWrites
unfolding RoundIsItsWrites round_of none_done writes_from table_after last_sheet sheet_after done_in last_refusal
round-is-its-writes t s r [] = record { table = refl; sheet = refl; value = refl; refusal = by_none refl refl }
round-is-its-writes t s r (o ∷ os) = whole (by_order r (λ t s n os x. From t s n os x (writes_from t s r n os))
    (λ t s n. record { table = refl; sheet = refl; value = omega arith; refusal = last refl })
    (λ t s n o os e. rw (eq-eqb n 64 e) (record { table = refl; sheet = refl; value = omega arith; refusal = many (omega arith) e refl }))
    (λ t s n o os x e z f. rw (ne_eqb n 64 e, z) (one_more t s r n o os x (writes_from (made t s r o).table (made t s r o).sheet r (suc n) os) z f))
    (λ t s n o os e z. rw (ne_eqb n 64 e, ne_eqb (made t s r o).refusal 0 z) (record { table = refl; sheet = refl; value = rw (ne_eqb (made t s r o).refusal 0 z) (omega arith); refusal = last refl }))
    t s 0 (o ∷ os))
  where
    stop : {x : Round} → Stopped t 0 (o ∷ os) x (writes_from t s r 0 (o ∷ os)) → Refused t s r (o ∷ os) x
    stop (last e) = by_last (omega arith) e
    stop (many a b c) = by65th (omega arith) b c

    whole : {x : Round} → From t s 0 (o ∷ os) x (writes_from t s r 0 (o ∷ os)) → ItsWrites t s r (o ∷ os) x
    whole f = record { table = f.table; sheet = f.sheet; value = f.value ∙ zero-add _; refusal = stop f.refusal }

pub refused-by-writes : RefusedByWrites
unfolding RefusedByWrites RoundIsItsWrites
refused-by-writes t s r os = by-case (round-is-its-writes t s r os).refusal
  where
    by-case : Refused t s r os (round_of t s r os)
        → (length os ≡ 0 → (round_of t s r os).refusal ≡ first_no (empty_questions t s r true)) × (0 < length os → length os ≤ 64 → (round_of t s r os).refusal ≡ last_refusal t (writes_from t s r 0 os))
    by-case (by_last l e) = ((λ z. absurd (omega arith)), (λ m n. e))
    by-case (by_none z e) = ((λ n. e), (λ m n. absurd (omega (arith, ap length z))))
    by-case (by65th l v e) = ((λ z. absurd (omega arith)), (λ m n. absurd (omega arith)))

-- ---- an act leaves what the calls leave that it stands for
table-by : (t : List ℕ) (x : Act) → table_by t x ≡ table_after t (stands_for t x)
unfolding table_by stands_for table_after RoundIsItsWrites
table-by t (single k) = refl
table-by t (round s r os) = (round-is-its-writes t s r os).table

sheet-by : (t s : List ℕ) (x : Act) → LentTo s x → sheet_by t s x ≡ last_sheet t s (stands_for t x)
unfolding LentTo sheet_by stands_for last_sheet RoundIsItsWrites
sheet-by t s (single k) l = refl
sheet-by t s (round v r os) l = (round-is-its-writes t v r os).sheet ∙ ap (λ (u : List ℕ). last_sheet t u (writes_from t v r 0 os)) l

-- calls after calls
after_both : (t : List ℕ) (ks ls : List Call) → table_after t (ks ++ ls) ≡ table_after (table_after t ks) ls
unfolding table_after
after_both t [] ls = refl
after_both t (k ∷ ks) ls = after_both (outcome t k).table ks ls

pub acts-are-calls : ActsAreCalls
unfolding ActsAreCalls table_after_acts calls_of table_after
acts-are-calls t [] = refl
acts-are-calls t (x ∷ xs) =
    acts-are-calls (table_by t x) xs
    ∙ ap (λ (u : List ℕ). table_after u (calls_of (table_by t x) xs)) (table-by t x)
    ∙ sym (after_both t (stands_for t x) (calls_of (table_by t x) xs))

pub acts-reach : ActsReach
unfolding ActsReach ActsAreCalls
acts-reach t a xs h = rw (acts-are-calls (outcome t (founding a)).table xs) (after t a (calls_of (outcome t (founding a)).table xs) h)

-- ---- demand 3
right-both : (q : ℕ) (t : List ℕ) (b : Book) (ks ls : List Call) → AllRight q t b (ks ++ ls) → AllRight q t b ks × AllRight q (table_after t ks) (book_after q t b ks) ls
unfolding AllRight table_after book_after
right-both q t b [] ls h = (tt, h)
right-both q t b (k ∷ ks) ls h =
    let m = right-both q (outcome t k).table (entered q b k (eqb (outcome t k).refusal 0)) ks ls h.1 in ((h.0, m.0), m.1)

acts-right : (q : ℕ) (t : List ℕ) (b : Book) (xs : List Act) → AllRight q t b (calls_of t xs) → ActsRight q t b xs
unfolding ActsRight calls_of
acts-right q t b [] h = tt
acts-right q t b (x ∷ xs) h =
    let m = right-both q t b (stands_for t x) (calls_of (table_by t x) xs) h in
    let c = book_after q t b (stands_for t x) in
    (m.0, acts-right q (table_by t x) c xs (subst (λ (u : List ℕ). AllRight q u c (calls_of (table_by t x) xs)) (sym (table-by t x)) m.1))

pub demand-3-with-rounds : Demand3WithRounds
unfolding Demand3WithRounds Demand3
demand-3-with-rounds t a xs h q = acts-right q _ _ xs (demand-3 t a (calls_of _ xs) h q)

-- ---- fair use
lent_both : (t s : List ℕ) (ks ls : List Call) → OneSheet t s ks → OneSheet (table_after t ks) (last_sheet t s ks) ls → OneSheet t s (ks ++ ls)
unfolding OneSheet table_after last_sheet
lent_both t s [] ls h l = l
lent_both t s (k ∷ ks) ls h l = (h.0, lent_both (outcome t k).table (sheet_after t s k) ks ls h.1 l)

last-both : (t s : List ℕ) (ks ls : List Call) → last_sheet t s (ks ++ ls) ≡ last_sheet (table_after t ks) (last_sheet t s ks) ls
unfolding table_after last_sheet
last-both t s [] ls = refl
last-both t s (k ∷ ks) ls = last-both (outcome t k).table (sheet_after t s k) ks ls

-- an act is lent the sheet as each of its writes is
lent_by : (t s : List ℕ) (x : Act) → LentTo s x → OneSheet t s (stands_for t x)
unfolding LentTo stands_for OneSheet writes_from writing LentIt sheet_after
lent_by t s (single k) l = (l, tt)
lent_by t s (round v r os) l =
    subst (λ (u : List ℕ). OneSheet t u (writes_from t v r 0 os)) l
    (by_order r (λ t s n os x. OneSheet t s (writes_from t s r n os))
    (λ t s n. tt)
    (λ t s n o os e. rw (eq-eqb n 64 e) tt)
    (λ t s n o os x e z i. rw (ne_eqb n 64 e, z) (refl, i))
    (λ t s n o os e z. rw (ne_eqb n 64 e, ne_eqb (made t s r o).refusal 0 z) (refl, tt))
    t v 0 os)

acts-lent : (t s : List ℕ) (xs : List Act) → OneSheetActs t s xs → OneSheet t s (calls_of t xs) × (last_sheet_acts t s xs ≡ last_sheet t s (calls_of t xs))
unfolding OneSheetActs last_sheet_acts calls_of OneSheet last_sheet
acts-lent t s [] l = (tt, refl)
acts-lent t s (x ∷ xs) l =
    let m = acts-lent (table_by t x) (sheet_by t s x) xs l.1 in
    let ls = calls_of (table_by t x) xs in
    let a = table-by t x in
    let b = sheet-by t s x l.0 in (
      lent_both t s (stands_for t x) ls (lent_by t s x l.0) (subst₂ (λ (u v : List ℕ). OneSheet u v ls) a b m.0),
      m.1 ∙ ap₂ (λ (u v : List ℕ). last_sheet u v ls) a b ∙ sym (last-both t s (stands_for t x) ls),
    )

pub counts-sum-with-rounds : CountsSumWithRounds
unfolding CountsSumWithRounds CountsSum
counts-sum-with-rounds t a s xs h z l =
    let m = acts-lent (outcome t (founding a)).table s xs l in
    ap (λ (u : List ℕ). sum 16 (count_of u)) m.1 ∙ counts-sum t a s (calls_of _ xs) h z m.0
