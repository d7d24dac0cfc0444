-- Every interleaving is a list of calls.
use mathlib.Core.Path.{◌≡◌, refl, sym, ◌∙◌, ap, ap₂, subst, fun_ext}
use mathlib.Core.Bool.{Bool, true, false, cond, ◌&&◌, ◌||◌, and-true, and-false, or-false}
use mathlib.Core.List.{List, [], ◌∷◌, ◌++◌}
use Prim.Native.Nat.{ℕ, zero, suc, ◌^◌, ◌≤◌, ◌<◌}
use native.Mathlib.Decide.{dec_lt, ℕ_discrete}
use native.Mathlib.Omega.{arith}
use lib.Dec.{eqb}
use borrow.Author.Tests.{eq-eqb, ne_eqb}
use Rattle.bools.proofs.BoolLaws.{clash}
use lib.Bits.{bit_or}
use Rattle.sets.specs.Upto.{Within}
use Rattle.sets.specs.Sets.{has}
use Rattle.sets.proofs.SetLaws.{has-suc, empty-at}
use Rattle.sets.proofs.DigitLaws.{on, on_or, on-power}
use Rattle.octets.specs.Bytes.{part}
use Rattle.blocks.specs.Blocks.{with_block, with_blocks}
use Rattle.fields.specs.Layout.{used_of, row_length, row_bytes, with_rows}
use Rattle.table.specs.WellFormed.{well_formed}
use Rattle.table.proofs.FormLaws.{formed, well-formed-of, rows-room}
use Rattle.protocol.specs.Calls.{Call, founding, join, read, write, send, check, carry, Outcome, outcome}
use Rattle.protocol.specs.Claims.{Answering, by_read, by_write, by_send, by_check, OnlyRowsOf, EqualIn, SameFor}
use Rattle.protocol.proofs.FrameLaws.{SameFrame, same-used}
use Rattle.protocol.proofs.FrameKept.{frame-itself, call-frame}
use Rattle.protocol.proofs.Unanswered.{used-same, lengths, rest}
use Rattle.history.specs.Book.{Book}
use Rattle.history.specs.Demand3.{RefusedRight, Right}
use Rattle.history.specs.Claims.{table_after, book_after}
use Rattle.history.proofs.Answers.{Group, first-file, right}
use Rattle.history.proofs.Theorems.{later, reached}
use Rattle.relaying.specs.Relaying.{blanked, BlankedEqual, OthersBlank, BlankedAlike, BlankedAnswers}
use Rattle.relaying.specs.Shipping.{shipped}
use Rattle.relaying.proofs.RelayLaws.{blanked-equal, others-blank, blanked-alike, blanked-answers}
use Rattle.relaying.proofs.ShippingLaws.{shipped-is, only-answered}
use Rattle.commit.specs.Steps.{Answer, silent, gave, Shown, none, some, show, shown}
use Rattle.commit.specs.Atomic.{Entry, calls, answered, given, made, after, Saw, EveryCallAtomic, EveryCallOnce}
use Rattle.commit.proofs.AtomicLaws.{every-call-atomic}
use Rattle.commit.proofs.LedgerLaws.{every-call-once}
use Rattle.interleaved.specs.Interleaved.{Request, to_read, to_write, to_send, to_check, asked, is_shown, row_of, set_of, assembled, decided_on, by_library, call_of, calls_of, Told, AllTold, EveryInterleaving}

asked-answering : (q : Request) (r : ℕ) → Answering (asked q r) r
unfolding asked
asked-answering (to_read a) r = by_read
asked-answering (to_write a) r = by_write
asked-answering (to_send a) r = by_send
asked-answering (to_check a) r = by_check

-- ---- R
digit : (b : Bool) (s k j : ℕ) → on (cond b (bit_or s (2 ^ k)) s) j ≡ (on s j || (b && eqb j k))
digit true s k j = on_or s (2 ^ k) j ∙ ap (λ (x : Bool). on s j || x) (on-power k j)
digit false s k j = sym (or-false (on s j))

out-of-set : (rows : ℕ → Shown) (n j : ℕ) → n ≤ j → on (set_of rows n) j ≡ false
unfolding set_of
out-of-set rows zero j l = sym (has-suc 0 j) ∙ empty-at (suc j)
out-of-set rows (suc k) j l =
    digit (is_shown (rows (suc k))) (set_of rows k) k j
    ∙ ap₂ (λ (x y : Bool). x || (is_shown (rows (suc k)) && y)) (out-of-set rows k j (omega arith)) (ne_eqb j k (λ q. omega arith))
    ∙ and-false (is_shown (rows (suc k)))

in-set : (rows : ℕ → Shown) (n j : ℕ) → j < n → on (set_of rows n) j ≡ is_shown (rows (suc j))
unfolding set_of
in-set rows zero j l = absurd (omega arith)
in-set rows (suc k) j l = digit (is_shown (rows (suc k))) (set_of rows k) k j ∙ go (in-set rows k j) (ℕ_discrete j k)
  where
    go : (j < k → on (set_of rows k) j ≡ is_shown (rows (suc j))) → Dec (j ≡ k) → (on (set_of rows k) j || (is_shown (rows (suc k)) && eqb j k)) ≡ is_shown (rows (suc j))
    go h (yes q) =
        ap₂ (λ (x y : Bool). x || (is_shown (rows (suc k)) && y)) (out-of-set rows k j (omega arith)) (eq-eqb j k q)
        ∙ and-true (is_shown (rows (suc k)))
        ∙ ap (λ (x : ℕ). is_shown (rows (suc x))) (sym q)
    go h (no q) =
        ap₂ (λ (x y : Bool). x || (is_shown (rows (suc k)) && y)) (h (omega arith)) (ne_eqb j k q)
        ∙ ap (λ (x : Bool). is_shown (rows (suc j)) || x) (and-false (is_shown (rows (suc k))))
        ∙ or-false (is_shown (rows (suc j)))

-- among the used rows R is those that are shown; beyond them it is empty
has-set : (rows : ℕ → Shown) (n i : ℕ) → Within n i → has (set_of rows n) i ≡ is_shown (rows i)
has-set rows n zero w = absurd (omega arith)
has-set rows n (suc j) w = has-suc (set_of rows n) j ∙ in-set rows n j (omega arith)

set-within : (rows : ℕ → Shown) (n i : ℕ) → has (set_of rows n) i ≡ true → Within n i
unfolding has
set-within rows n zero h = absurd (clash h)
set-within rows n (suc j) h = go (dec_lt j n)
  where
    go : Dec (j < n) → Within n (suc j)
    go (yes l) = omega arith
    go (no l) = absurd (clash (sym (out-of-set rows n j (omega arith)) ∙ sym (has-suc (set_of rows n) j) ∙ h))

-- ---- calls keep header, names, links and counties
next-frame : {t u v : List ℕ} → SameFrame t u → SameFrame u v → SameFrame t v
next-frame f g = record {
  like = record { long = g.like.long ∙ f.like.long; header = λ a n h. g.like.header a n h ∙ f.like.header a n h };
  names = g.names ∙ f.names;
  links = g.links ∙ f.links;
  counties = g.counties ∙ f.counties;
}

-- ---- the table put together
-- well-formed tables of one frame: whatever R, the same when all rows are blank
module _ (t u : List ℕ) (x : well_formed t ≡ true) (y : well_formed u ≡ true) (f : SameFrame t u) where
  no_rows : EqualIn 0 t u
  unfolding part
  no_rows = record {
    formed = x;
    formed-too = y;
    header = sym (f.like.header 0 16 (omega arith));
    names = λ i w. ap (λ (g : ℕ → ℕ). g i) (sym f.names);
    links = λ i w. ap (λ (g : ℕ → ℕ). g i) (sym f.links);
    counties = λ i w. ap (λ (g : ℕ → ℕ). g i) (sym f.counties);
    rows = λ i h. absurd (clash (sym (empty-at i) ∙ h));
  }

  blank-same : blanked 0 t ≡ blanked 0 u
  unfolding BlankedAlike
  blank-same = blanked-alike t u 0 no_rows

-- the rows of R laid over the blank ones
module _ (t : List ℕ) (r : ℕ) (x : well_formed t ≡ true) where
  none-there : EqualIn 0 t (blanked 0 t)
  unfolding BlankedEqual
  none-there = blanked-equal t 0 x

  some-there : EqualIn r t (blanked r t)
  unfolding BlankedEqual
  some-there = blanked-equal t r x

  within : (i : ℕ) → Within (used_of (blanked 0 t)) i → Within (used_of t) i
  within i w = subst (λ (n : ℕ). Within n i) (used-same none-there) w

  framed : EqualIn 0 (blanked 0 t) (blanked r t)
  framed = record {
    formed = none-there.formed-too;
    formed-too = some-there.formed-too;
    header = sym none-there.header ∙ some-there.header;
    names = λ i w. sym (none-there.names i (within i w)) ∙ some-there.names i (within i w);
    links = λ i w. sym (none-there.links i (within i w)) ∙ some-there.links i (within i w);
    counties = λ i w. sym (none-there.counties i (within i w)) ∙ some-there.counties i (within i w);
    rows = λ i h. absurd (clash (sym (empty-at i) ∙ h));
  }

  only : OnlyRowsOf r (blanked 0 t) (blanked r t)
  unfolding OthersBlank
  only = record {
    bytes = lengths framed;
    header = sym framed.header;
    rows = λ i w m. others-blank t r i x (within i w) m ∙ sym (others-blank t 0 i x (within i w) (empty-at i));
    rest = rest framed;
  }

  laid : shipped r t (blanked 0 t) ≡ blanked r t
  laid = shipped-is r (blanked 0 t) t (blanked r t) (rows-room (blanked 0 t) (formed (blanked 0 t) none-there.formed-too)) only (λ i m. sym (some-there.rows i m))

-- rows changed alike where they are changed
blocks-ext : (a w : ℕ) (s z : ℕ → Bool) (f g : ℕ → List ℕ → List ℕ) (n : ℕ) (xs : List ℕ) → ((i : ℕ) → Within n i → s i ≡ z i) → ((i : ℕ) → Within n i → z i ≡ true → f i ≡ g i)
    → with_blocks a w s f n xs ≡ with_blocks a w z g n xs
unfolding with_blocks
blocks-ext a w s z f g zero xs h k = refl
blocks-ext a w s z f g (suc n) xs h k =
    ap (λ (b : Bool). cond b (with_block a w (suc n) (f (suc n)) (with_blocks a w s f n xs)) (with_blocks a w s f n xs)) (h (suc n) (omega arith))
    ∙ ap (λ (u : List ℕ). cond (z (suc n)) (with_block a w (suc n) (f (suc n)) u) u) (blocks-ext a w s z f g n xs (λ i v. h i (omega arith)) (λ i v. k i (omega arith)))
    ∙ go (z (suc n)) refl
  where
    go : (b : Bool) → z (suc n) ≡ b
        → cond b (with_block a w (suc n) (f (suc n)) (with_blocks a w z g n xs)) (with_blocks a w z g n xs) ≡ cond b (with_block a w (suc n) (g (suc n)) (with_blocks a w z g n xs)) (with_blocks a w z g n xs)
    go true e = ap (λ (m : List ℕ → List ℕ). with_block a w (suc n) m (with_blocks a w z g n xs)) (k (suc n) (omega arith) e)
    go false e = refl

-- what a relay puts together for a call is the table with the rows outside R blank
module _ (t u : List ℕ) (x : well_formed t ≡ true) (y : well_formed u ≡ true) (f : SameFrame t u) (rows : ℕ → Shown) (h : (i : ℕ) → Within (used_of t) i → is_shown (rows i) ≡ true → row_of (rows i) ≡ row_bytes u i) where
  together : assembled t rows ≡ blanked (set_of rows (used_of t)) u
  unfolding assembled shipped with_rows
  together =
      blocks-ext 16 (row_length (blanked 0 t)) (λ i. is_shown (rows i)) (has (set_of rows (used_of t))) (λ i z. row_of (rows i)) (λ i z. row_bytes u i) (used_of t) (blanked 0 t)
      (λ i w. sym (has-set rows (used_of t) i w))
      (λ i w m. fun_ext (λ z. h i w (sym (has-set rows (used_of t) i w) ∙ m)))
      ∙ ap₂ (λ (n : ℕ) (z : List ℕ). with_blocks 16 (row_length z) (has (set_of rows (used_of t))) (λ i q. row_bytes u i) n z) (sym (used-same (none-there u 0 y) ∙ same-used f)) (blank-same t u x y f)
      ∙ laid u (set_of rows (used_of t)) y

-- ---- one call after others
after_last : (t : List ℕ) (ks : List Call) (k : Call) → table_after t (ks ++ (k ∷ [])) ≡ (outcome (table_after t ks) k).table
unfolding table_after
after_last t [] k = refl
after_last t (j ∷ ks) k = after_last (outcome t j).table ks k

call-answering : (t : List ℕ) (request : ℕ → Request) (e : Entry) → Answering (call_of t request e) (set_of (shown e.heard) (used_of t))
unfolding call_of
call-answering t request e = asked-answering (request e.call) (set_of (shown e.heard) (used_of t))

show-answered : (a : Answer) → is_shown (show a) ≡ answered a
unfolding is_shown show answered
show-answered silent = refl
show-answered (gave k r) = refl

shown-answered : (g : ℕ → Answer) (i : ℕ) → is_shown (shown g i) ≡ answered (g i)
unfolding shown
shown-answered g i = show-answered (g i)

by-library : (t : List ℕ) (request : ℕ → Request) (n : ℕ) (x y : ℕ → Shown) → x ≡ y → (i : ℕ) → by_library t request n x i ≡ row_bytes (decided_on t (request n) y).table i
unfolding by_library
by-library t request n x y e i = ap (λ (z : ℕ → Shown). row_bytes (decided_on t (request n) z).table i) e

-- demand 3's claim of a call is about its result and its read bytes
right-same : (q : ℕ) (t : List ℕ) (b : Book) (k : Call) (r : ℕ) (o p : Outcome) → SameFor r o p → Right q t b k o → Right q t b k p
unfolding Right RefusedRight
right-same q t b (founding a) r o p s h = tt
right-same q t b (join a) r o p s h = tt
right-same q t b (read a) r o p s h = λ f.
    (λ z. let g = (h f).0 (s.refusal ∙ z) in record { value = sym s.value ∙ g.value; bytes = sym s.buffer ∙ g.bytes }, λ z l. sym s.refusal ∙ (h f).1 z l)
right-same q t b (write a) r o p s h = λ f z l. sym s.refusal ∙ h f z l
right-same q t b (send a) r o p s h = tt
right-same q t b (check a) r o p s h = tt
right-same q t b (carry a) r o p s h = tt

module _ (t : List ℕ) (b : ℕ → Book) (p : ℕ) (G : Group t b p) (request : ℕ → Request) where
  upto : List Entry → List ℕ
  upto es = table_after t (calls_of t request es)

  formed-after : (es : List Entry) → well_formed (upto es) ≡ true
  unfolding upto
  formed-after es = well-formed-of _ (first-file (later t b p G (calls_of t request es)).1).formed

  frame-after : (es : List Entry) → SameFrame t (upto es)
  unfolding upto calls_of table_after
  frame-after [] = frame-itself t
  frame-after (e ∷ es) =
      subst (SameFrame t) (sym (after_last t (calls_of t request es) (call_of t request e)))
      (next-frame (frame-after es) (call-frame (upto es) (call_of t request e) (set_of (shown e.heard) (used_of t)) (call-answering t request e)))

  module _ (e : Entry) (es : List Entry) (before : (i : ℕ) → Within (used_of t) i → after (by_library t request) (row_bytes t) es i ≡ row_bytes (upto es) i)
      (saw : shown e.heard ≡ given e.heard (after (by_library t request) (row_bytes t) es)) where
    R : ℕ
    R = set_of (shown e.heard) (used_of t)

    -- the rows shown are those of the table
    shown-rows : (i : ℕ) → Within (used_of t) i → is_shown (shown e.heard i) ≡ true → row_of (shown e.heard i) ≡ row_bytes (upto es) i
    unfolding given row_of
    shown-rows i w m =
        ap (λ (x : ℕ → Shown). row_of (x i)) saw
        ∙ ap (λ (c : Bool). row_of (cond c (some (after (by_library t request) (row_bytes t) es i)) none)) (sym (shown-answered e.heard i) ∙ m)
        ∙ before i w

    same_outcome : SameFor R (outcome (upto es) (call_of t request e)) (decided_on t (request e.call) (shown e.heard))
    unfolding R decided_on call_of BlankedAnswers
    same_outcome =
        subst (λ (x : List ℕ). SameFor R (outcome (upto es) (call_of t request e)) (outcome x (call_of t request e)))
        (sym (together t (upto es) (well-formed-of t (first-file G).formed) (formed-after es) (frame-after es) (shown e.heard) shown-rows))
        (blanked-answers (upto es) (call_of t request e) R (call-answering t request e) (formed-after es))

    told-it : Told t b request e es
    unfolding upto R
    told-it = record {
      same = same_outcome;
      right = λ q. let l = later t b p G (calls_of t request es) in right-same q _ _ _ _ _ _ same_outcome (right (upto es) (λ q. book_after q t (b q) (calls_of t request es)) l.0 l.1 q (call_of t request e));
    }

    made-it : (i : ℕ) → Within (used_of t) i → made (by_library t request) e (after (by_library t request) (row_bytes t) es) i ≡ row_bytes (outcome (upto es) (call_of t request e)).table i
    unfolding made R
    made-it i w = go (answered (e.heard i)) refl
      where
        member : has R i ≡ answered (e.heard i)
        member = has-set (shown e.heard) (used_of t) i w ∙ shown-answered e.heard i

        go : (c : Bool) → answered (e.heard i) ≡ c
            → cond c (by_library t request e.call (given e.heard (after (by_library t request) (row_bytes t) es)) i) (after (by_library t request) (row_bytes t) es i) ≡ row_bytes (outcome (upto es) (call_of t request e)).table i
        go true m = by-library t request e.call _ (shown e.heard) (sym saw) i ∙ sym (same_outcome.rows i (member ∙ m))
        go false m =
            before i w
            ∙ sym ((only-answered (upto es) (formed-after es) (call_of t request e) R (call-answering t request e)).rows i (subst (λ (n : ℕ). Within n i) (sym (same-used (frame-after es))) w) (member ∙ m))

  -- ---- the list
  rows-after : (es : List Entry) → Saw (by_library t request) (row_bytes t) es → (i : ℕ) → Within (used_of t) i → after (by_library t request) (row_bytes t) es i ≡ row_bytes (upto es) i
  unfolding after Saw upto calls_of table_after
  rows-after [] w i u = refl
  rows-after (e ∷ es) w i u = made-it e es (rows-after es w.1) w.0 i u ∙ ap (λ (x : List ℕ). row_bytes x i) (sym (after_last t (calls_of t request es) (call_of t request e)))

  all_told : (es : List Entry) → Saw (by_library t request) (row_bytes t) es → AllTold t b request es
  unfolding AllTold Saw
  all_told [] w = tt
  all_told (e ∷ es) w = (told-it e es (rows-after es w.1) w.0, all_told es w.1)

pub every-interleaving : EveryInterleaving
unfolding EveryInterleaving EveryCallAtomic EveryCallOnce upto
every-interleaving t b x request s h =
    let l = reached t b x in
    let a = every-call-atomic (by_library t request) (row_bytes t) s h in
    record {
      listed = every-call-once (by_library t request) (row_bytes t) s h;
      told = all_told t b l.0 l.1 request (calls s) a.saw;
      rows = λ i w. a.rows i ∙ rows-after t b l.0 l.1 request (calls s) a.saw i w;
    }
