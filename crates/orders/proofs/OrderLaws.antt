-- Each way out of an order, over plain variables; the choices kept, and what a done write leaves ready.
use mathlib.Core.Path.{◌≡◌, refl, sym, ◌∙◌, ap, subst}
use mathlib.Core.Bool.{Bool, true, false, cond}
use mathlib.Core.List.{List}
use Prim.Native.Nat.{ℕ, ◌≤◌, ◌<◌, ◌+◌, ◌-◌, ◌*◌, ◌^◌}
use native.Mathlib.Decide.{ℕ_discrete}
use native.Mathlib.Omega.{arith}
use borrow.Author.Tests.{lt-ltb, le-ltb, ne_eqb}
use lib.Dec.{eqb, ltb}
use lib.ListN.{get_or, set, replicate, length-set, get_or-replicate}
use lib.Seq.{get_or-set_same, get_or-set_other}
use Rattle.sets.specs.Upto.{Within}
use Rattle.quorums.specs.declared.Kind.TheVariants.{Write}
use Rattle.octets.specs.Bytes.{part}
use Rattle.fields.specs.Layout.{row_bytes, used_of, list_of}
use Rattle.fields.proofs.FieldLaws.{head-list}
use Rattle.grouping.specs.declared.Frame.{Frame}
use Rattle.grouping.specs.Frames.{FrameOf}
use Rattle.grouping.specs.Grouped.{Framed}
use Rattle.asking.specs.Asking.{result_number}
use Rattle.sheet.specs.Sheet.{assured_of, count_of, counted}
use Rattle.sheet.specs.Claims.{CountsOne}
use Rattle.sheet.proofs.SheetLaws.{counts-one}
use Rattle.protocol.specs.Calls.{Writing, write, outcome, result_of}
use Rattle.protocol.specs.Claims.{ResultTells, OtherFilesStay, writes_file, by_write}
use Rattle.protocol.proofs.Claimed.{result-tells}
use Rattle.protocol.proofs.FrameKept.{call-frame}
use Rattle.protocol.proofs.FrameLaws.{same-used, same-frame}
use Rattle.grouping.proofs.FrameLaws.{frame-of}
use Rattle.protocol.proofs.OtherFiles.{other-files-stay}
use Rattle.protocol.proofs.Unanswered.{first_part}
use Rattle.protocol.proofs.QuestionLaws.{refusal_is, when-refused, write-yes}
use Rattle.settle.specs.Works.{Known}
use Rattle.settle.proofs.SettleLaws.{known-none}
use Rattle.effects.proofs.WriteLaws.{counted-done, not-counted, write-framed}
use Rattle.effects.proofs.FrameKept.{write-frame}
use Rattle.orders.specs.declared.Turn.{Turn}
use Rattle.orders.specs.Turns.{Run, stepped, Kept, Ready, frame_in, Opened}

abbrev pub run : ℕ → List ℕ → List ℕ → Run
run n t s = record { result = n; table = t; sheet = s }

pub same-run : {n m : ℕ} {t u s v : List ℕ} → n ≡ m → t ≡ u → s ≡ v → run n t s ≡ run m u v
same-run p q e = λ i. record { result = p i; table = q i; sheet = e i }

-- ---- a turn
module _ (w : Writing) (t s : List ℕ) (n : ℕ) where
  pub step-refused : 64 < n → run n t s ≡ stepped (run n t s) w
  unfolding stepped
  step-refused h = rw (le-ltb n 64 (omega arith), ne_eqb n 64 (λ e. omega arith))

  pub step-65 : n ≡ 64 → run (result_number 4 64) t s ≡ stepped (run n t s) w
  unfolding stepped
  step-65 e = rw e

  module _ (k : ℕ) (u v : List ℕ) (low : n < 64) (one : (k ≡ (outcome t (write w)).refusal) × (u ≡ (outcome t (write w)).table) × (v ≡ (outcome t (write w)).sheet)) where
    pub step-done : k ≡ 0 → run (n + 1) u v ≡ stepped (run n t s) w
    unfolding stepped
    step-done e = rw (lt-ltb n 64 low, ← one.0, e) (same-run refl one.1 one.2)

    pub step-stop : (k ≡ 0 → ⊥) → run (result_number k n) u v ≡ stepped (run n t s) w
    unfolding stepped
    step-stop e = rw (lt-ltb n 64 low, ← one.0, ne_eqb k 0 e) (same-run refl one.1 one.2)

-- ---- a write made by the code: its result is x, the table that it leaves u
module _ (t : List ℕ) (a : Writing) (n x : ℕ) (u : List ℕ) (low : n < 64) (answered : x ≡ result_of (outcome t (write a))) (left : u ≡ (outcome t (write a)).table) where
  is-done : x < 2 ^ 32 → 0 ≡ (outcome t (write a)).refusal
  unfolding result_of
  is-done h = omega (arith, answered)

  is-refused : 2 ^ 32 ≤ x → (outcome t (write a)).refusal ≡ 0 → ⊥
  unfolding result_of ResultTells
  is-refused h e = omega (arith, answered, e, (result-tells t (write a)).small)

  refusal-alone : 2 ^ 32 ≤ x → x ≡ (outcome t (write a)).refusal * 2 ^ 32
  unfolding result_of
  refusal-alone h = omega (arith, answered, (when-refused t (write a) (is-refused h)).0)

  pub one-done : x < 2 ^ 32 → run (n + 1) u (counted a.sheet a.club) ≡ stepped (run n t a.sheet) a
  one-done h = step-done a t a.sheet n 0 u _ low (is-done h, left, counted-done t a x answered h) refl

  pub one-refused : (k : ℕ) → x ≡ result_number k 0 → 1 ≤ k → run (result_number k n) u a.sheet ≡ stepped (run n t a.sheet) a
  one-refused k e h =
      let high : 2 ^ 32 ≤ x = omega (arith, e) in
      let z : k ≡ (outcome t (write a)).refusal = omega (arith, e, refusal-alone high) in
      same-run (ap (λ (m : ℕ). result_number m n) z) refl refl
      ∙ step-stop a t a.sheet n (outcome t (write a)).refusal u _ low (refl, left, not-counted t a x answered high) (is-refused high)

-- ---- the choices kept
pub kept-none : (t : List ℕ) → Kept t (replicate 16 0)
kept-none t = record { long = refl; known = λ i w l. rw (get_or-replicate {A = ℕ} 16 (i - 1) 0 0 (omega arith)) (known-none Write t i) }

pub kept_more : (t xs : List ℕ) (c x : ℕ) → 1 ≤ c → c ≤ 16 → Known Write t c x → Kept t xs → Kept t (set xs (c - 1) x)
kept_more t xs c x low high k y = record { long = length-set xs (c - 1) x ∙ y.long; known = λ i w l. go i w l (ℕ_discrete i c) }
  where
    go : (i : ℕ) → Within (used_of t) i → i ≤ 16 → Dec (i ≡ c) → Known Write t i (get_or (set xs (c - 1) x) (i - 1) 0)
    go i w l (yes e) = rw (e, get_or-set_same xs (c - 1) x 0 (omega (arith, y.long))) k
    go i w l (no d) = rw (get_or-set_other xs (c - 1) (i - 1) x 0 (λ q. d (omega arith))) (y.known i w l)

-- a write leaves names and lists as they are, and so the choices
list-stays : (t : List ℕ) (a : Writing) (i : ℕ) → Within (used_of t) i → list_of (outcome t (write a)).table i ≡ list_of t i
unfolding OtherFilesStay list_of
list-stays t a i w =
    let u = (outcome t (write a)).table in
    let h = (other-files-stay t (write a) a.file writes_file).heads i w in
    head-list (row_bytes t i) (row_bytes u i) (λ b m r. sym (first_part 32 b m (row_bytes u i) r) ∙ ap (part b m) h ∙ first_part 32 b m (row_bytes t i) r)

kept-after : (t xs : List ℕ) (a : Writing) → Kept t xs → Kept (outcome t (write a)).table xs
kept-after t xs a y =
    let f = call-frame t (write a) a.r by_write in record {
      long = y.long;
      known = λ i w l.
          let v : Within (used_of t) i = rw (same-used f) at w in
          record { chosen = λ d. rw (same-frame f, f.names, list-stays t a i v) ((y.known i v l).chosen d) };
    }

-- a done write leaves all as question 1 wants it, and of the remainder one less where the club was not below its assured number
pub ready-after : (t : List ℕ) (f : Frame) (a : Writing) (x : ℕ) (u : List ℕ) (turn : Turn) (choices : List ℕ) → x ≡ result_of (outcome t (write a)) → u ≡ (outcome t (write a)).table → x < 2 ^ 32
    → turn.done < 64 → Ready t a.sheet f turn choices
    → Ready u (counted a.sheet a.club) f (record { done = turn.done + 1; left = turn.left - cond (ltb (count_of a.sheet a.club) (assured_of a.sheet a.club)) 0 1 }) choices
unfolding result_of CountsOne
ready-after t f a x u turn choices answered done h low y =
    let e : (outcome t (write a)).refusal ≡ 0 = omega (arith, answered) in
    let one = counts-one a.sheet a.club y.right (write-yes t a (sym (refusal_is t (write a)) ∙ e)).club in
    record {
      framed = subst (λ (v : List ℕ). FrameOf v f) (sym done) (write-frame a y.framed);
      right = one.right;
      few = omega arith;
      spare = omega (arith, y.spare, one.remainder, one.beyond);
      kept = subst (λ (v : List ℕ). Kept v choices) (sym done) (kept-after t choices a y.kept);
    }

-- the arrays that hold the frame of the table hold that of the table after an order too
pub step-framed : (t s order sets : List ℕ) (n : ℕ) (w : Writing) → Framed t order sets → Framed (stepped (run n t s) w).table order sets
unfolding stepped
step-framed t s order sets n w f = go (ltb n 64)
  where
    go : (b : Bool) → Framed (cond b (run (cond (eqb (outcome t (write w)).refusal 0) (n + 1) (result_number (outcome t (write w)).refusal n)) (outcome t (write w)).table (outcome t (write w)).sheet)
        (run (cond (eqb n 64) (result_number 4 64) n) t s)).table order sets
    go true = write-framed w f
    go false = f

-- after an order the arrays hold the frame as they did
pub stands-again : {t u s order sets : List ℕ} {turn : Turn} {choices : List ℕ} → Framed t order sets → Framed u order sets → Ready u s (frame_in t order sets) turn choices → Opened u s order sets turn choices
stands-again f g y = record { framed = g; ready = record { framed = frame-of g refl; right = y.right; few = y.few; spare = y.spare; kept = y.kept } }
