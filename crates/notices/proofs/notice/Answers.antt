use mathlib.Core.Path.{◌≡◌, refl, sym, ◌∙◌, ap}
use mathlib.Core.Bool.{true, false}
use mathlib.Core.Logic.{◌⊎◌, inl, inr}
use Prim.Native.Nat.{ℕ, ◌≤◌, ◌<◌}
use native.Mathlib.Omega.{arith}
use borrow.Author.Tests.{le-leb, lt-leb}
use Rattle.asking.specs.Asking.{result_number}
use Rattle.telling.specs.Notices.{in_papers, Noticed}
use Rattle.telling.specs.Claims.{SentenceFits}
use Rattle.telling.proofs.NoticeLaws.{noticed-4, noticed-5, noticed-told, sentence-fits}
use Rattle.notices.proofs.notice.Goals as goal

-- result and buffer, by what the call leaves
leaves : {o x : Noticed} {r : ℕ} → o ≡ x → r ≡ result_number x.refusal x.value → (r ≡ result_number o.refusal o.value) × (x.buffer ≡ o.buffer)
leaves e q = (q ∙ sym (ap (λ (y : Noticed). result_number y.refusal y.value) e), sym (ap (λ (y : Noticed). y.buffer) e))

-- question 4 is yes
is_call : (call : ℕ) → (call ≡ 0 → ⊥) → call ≤ 10 → in_papers call ≡ true
unfolding in_papers
is_call call some few = rw (le-leb 1 call (omega arith), le-leb call 10 few)

-- and no
no_call : (call : ℕ) → (call ≡ 0) ⊎ ((call ≡ 0 → ⊥) × 10 < call) → in_papers call ≡ false
unfolding in_papers
no_call call (inl e) = rw (lt-leb 1 call (omega arith))
no_call call (inr h) = rw (lt-leb call 10 h.1, le-leb 1 call (omega (arith, h.1)))

pub returns-then-call-eq0 : goal.returns-then-call-eq0
returns-then-call-eq0 c =
    let a = c.args in
    leaves (noticed-4 a.call a.name a.number a.buffer.now (no_call a.call c.then-call-eq0.either)) refl

pub returns-then-buffer-ne160 : goal.returns-then-buffer-ne160
returns-then-buffer-ne160 c =
    let a = c.args in
    leaves (noticed-5 a.call a.name a.number a.buffer.now (is_call a.call c.if-call-eq0.false c.if-call-gt10.false) c.if-buffer-ne160.true) refl

pub overflow_cast-result : goal.overflow_cast-result
unfolding SentenceFits
overflow_cast-result c =
    let a = c.args in omega (arith, c.tell.ensures.0, sentence-fits a.call a.name a.number)

pub returns : goal.returns
returns c =
    let a = c.args in
    let done = noticed-told a.call a.name a.number a.buffer.now (is_call a.call c.if-call-eq0.false c.if-call-gt10.false) (omega (arith, c.if-buffer-ne160.false)) in
    let o = leaves done (ap (result_number 0) c.tell.ensures.0) in (o.0, c.tell.ensures.1 ∙ o.1)
