use mathlib.Core.Path.{◌≡◌, sym, ◌∙◌, ap}
use mathlib.Core.Bool.{Bool, true, not, ◌&&◌, ◌||◌}
use Prim.Native.Nat.{ℕ, ◌+◌, ◌≤◌}
use native.Mathlib.Omega.{arith}
use lib.Dec.{eqb}
use borrow.Author.Tests.{eqb-true, eq-eqb, ne_eqb}
use Rattle.bools.proofs.BoolLaws.{and_l, and_r, clash}
use Rattle.fields.proofs.FieldLaws.{equal, equal-same}
use Rattle.fields.specs.Layout.{get, epoch, list, used_of, epoch_of, list_of}
use Rattle.counties.specs.Marks.{mark_right, tall_right}
use Rattle.table.specs.WellFormed.{marks_right}
use Rattle.table.proofs.WellFormedLaws.{header, long}
use Rattle.agreement.specs.Compared.{agrees}
use Rattle.agreement.proofs.AgreeLaws.{agree-not, run-apart, first-passed, like-passed, next-passed, all-passed}
use Rattle.agreement.proofs.lists_right.Goals.{After-epoch, After-epoch-epoch-in-loop-k, After-list-own, then-not-both+else-not-joins, else-not-both, then-like, else-like}
use Rattle.agreement.proofs.lists_right.Goals as goal

-- list and epoch of row k + 1
its-list : (c : After-list-own) → c.list-own.result ≡ list_of c.args.t.now (c.loop-k.k + 1)
unfolding list_of
its-list c = c.list-own.ensures ∙ ap list c.row_at-row.ensures.0

its-epoch : (c : After-epoch) → c.epoch.result ≡ epoch_of c.args.t.now (c.loop-k.k + 1)
unfolding epoch_of
its-epoch c = c.epoch.ensures ∙ ap (get epoch) c.row_at-row.ensures.0

-- it is of the epoch of row k
alike : (c : After-epoch) → let t = c.args.t.now in
    eqb c.epoch.result c.loop-k.epoch ≡ true → (1 ≤ c.loop-k.k) × (epoch_of t (c.loop-k.k + 1) ≡ epoch_of t c.loop-k.k)
alike c e = (c.loop-k.auto.k, sym (its-epoch c) ∙ eqb-true _ _ e ∙ c.loop-k.invariant.epoch)

pub row_length-size-requires : goal.row_length-size-requires
row_length-size-requires c = let s = c.requires.0 in (long s, s.header)

pub used-used-requires : goal.used-used-requires
used-used-requires c = long c.requires.0

pub row_at-first-requires : goal.row_at-first-requires
row_at-first-requires c =
    (c.requires.0, c.row_length-size.ensures, omega (arith, (header c.requires.0.header).used))

pub loop-k-init : goal.loop-k-init
unfolding epoch_of list_of
loop-k-init c =
    first-passed _ _ _ _ _ _ (c.epoch-epoch.ensures ∙ ap (get epoch) c.row_at-first.ensures.0) (c.list-list.ensures ∙ ap list c.row_at-first.ensures.0) c.is_tall-tall.ensures c.is_wide-wide.ensures
    (c.mark_right-right.ensures ∙ ap (λ (y : ℕ → ℕ). mark_right y c.list-list.result) c.requires.1.county)

pub joins-requires : goal.joins-requires
joins-requires c = (
  c.requires.0,
  omega (arith, c.loop-k-test.true, c.used-used.ensures),
  c.loop-k.invariant.near,
  alike (goal.at.joins-requires c).After-epoch,
  λ n. run-apart _ c.loop-k.k c.loop-k.run c.loop-k.invariant.one (λ h q. clash (sym n ∙ eq-eqb _ _ (its-epoch (goal.at.joins-requires c).After-epoch ∙ q ∙ sym c.loop-k.invariant.epoch))),
)

pub returns-then-not-joins : goal.returns-then-not-joins
unfolding agrees
returns-then-not-joins c =
    let l = c.loop-k in
    let t = c.args.t.now in
    ap (λ (b : Bool). b && (marks_right t && tall_right (used_of t) (list_of t))) (agree-not t l.k (used_of t) (omega (arith, c.loop-k-test.true, c.used-used.ensures)) (sym (c.joins.ensures l.invariant.agree) ∙ c.if-not-joins.true))

-- the same, asked again
again : (c : After-epoch-epoch-in-loop-k) → c.epoch-epoch-in-loop-k.result ≡ epoch_of c.args.t.now (c.loop-k.k + 1)
unfolding epoch_of
again c = c.epoch-epoch-in-loop-k.ensures ∙ ap (get epoch) c.row_at-row.ensures.0

pub loop-k-preserved : goal.loop-k-preserved
unfolding equal
loop-k-preserved c =
    let l = c.loop-k in
    elim c.if-not-both.branch [
      | then-not-both+else-not-joins w ↦ next-passed _ l.k l.run l.epoch l.list l.tall l.wide l.right l.auto.k l.invariant _ _ _ _ _ _ (again c) (its-list (goal.at.loop-k-preserved c).After-list-own) _ (alike (goal.at.loop-k-preserved c).After-epoch)
          (sym (w.joins.ensures l.invariant.agree) ∙ w.if-not-joins.false)
          (w.run-is ∙ elim w.if-like.branch [ then-like v ↦ v.run-is ∙ rw (eq-eqb _ _ v.if-like.true) | else-like v ↦ v.run-is ∙ rw (ne_eqb _ _ v.if-like.false) ])
          (w.tall-is ∙ w.any-tall.ensures ∙ ap (λ (x : Bool). l.tall || x) w.is_tall.ensures)
          (w.wide-is ∙ w.any-wide.ensures ∙ ap (λ (x : Bool). l.wide || x) w.is_wide.ensures)
          (w.right-is ∙ w.both-right.ensures ∙ ap (λ (x : Bool). l.right && x) (w.mark_right.ensures ∙ ap (λ (y : ℕ → ℕ). mark_right y c.list-own.result) c.requires.1.county))
      | else-not-both w ↦ like-passed _ l.k l.run l.epoch l.list l.tall l.wide l.right l.auto.k l.invariant _ _ _ _ _ _ (again c) (its-list (goal.at.loop-k-preserved c).After-list-own)
          (again c ∙ sym (its-epoch (goal.at.loop-k-preserved c).After-epoch) ∙ eqb-true _ _ (and_l _ _ (sym c.both.ensures ∙ w.if-not-both.false)))
          ((equal-same _ _).0 (sym c.eq.ensures ∙ and_r (eqb c.epoch.result l.epoch) _ (sym c.both.ensures ∙ w.if-not-both.false)))
          w.run-is w.tall-is w.wide-is w.right-is
    ]

pub returns : goal.returns
unfolding agrees
returns c =
    let l = c.loop-k in
    let t = c.args.t.now in
    c.both-3.ensures ∙ ap (λ (b : Bool). l.right && not b) c.both-2.ensures
    ∙ all-passed t l.k _ _ _ l.tall l.wide l.right l.invariant (omega (arith, c.loop-k-test.false, c.used-used.ensures, (header c.requires.0.header).used))
