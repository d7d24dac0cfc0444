-- The list in force, as the code finds it, and questions 6 and 7 by it.
use mathlib.Core.Path.{◌≡◌, refl, sym, ◌∙◌, ap, ap₂}
use mathlib.Core.Bool.{Bool, true, false, not, cond, ◌&&◌}
use mathlib.Core.List.{List}
use Prim.Native.Nat.{ℕ, zero, suc, ◌≤◌}
use native.Mathlib.Omega.{arith}
use lib.Dec.{eqb}
use Rattle.sets.specs.Upto.{some, lowest, most}
use Rattle.sets.specs.Sets.{has}
use Rattle.bools.proofs.BoolLaws.{and_l}
use Rattle.sets.proofs.UptoLaws.{lowest-in}
use Rattle.quorums.specs.declared.Kind.{Kind}
use Rattle.fields.specs.declared.Laid.{Laid}
use Rattle.fields.specs.Layout.{no_list, is_empty, list_of}
use Rattle.fields.proofs.FieldLaws.{no-row-no-list}
use Rattle.table.specs.Chain.{frame_of}
use Rattle.counties.specs.Counties.{Frame, list_quorum}
use Rattle.protocol.specs.Polls.{polled, listed, highest_epoch, in_force, current, quorum_held}
use Rattle.protocol.specs.Calls.{answers}
use Rattle.protocol.proofs.PollLaws.{listed_at, lead-none, held-list, Agree, listed_same, epoch-same, list_same, good-same, version-same, current-same}
use Rattle.verdicts.specs.declared.Force.{Force}
use Rattle.verdicts.specs.declared.Verdict.{Verdict}
use Rattle.verdicts.specs.Judged.{Led, Judged}

-- ---- a set of rows that answered, by their poll
module _ (t : List ℕ) (q r s : ℕ) (sub : (i : ℕ) → has s i ≡ true → has r i ≡ true) where
  -- each says its list; no row says none
  said : (i : ℕ) → (1 ≤ i → has s i ≡ true) → (answers t q r).list i ≡ list_of t i
  unfolding answers polled has
  said zero m = sym (no-row-no-list t)
  said (suc k) m = rw (sub (suc k) (m (omega arith)))

  no_place : is_empty ((answers t q r).list 0) ≡ true
  unfolding is_empty no_list
  no_place = ap is_empty (said 0 (λ h. absurd (omega arith)) ∙ no-row-no-list t)

  -- the list in force is that of the row that leads those that have one
  pub listed-leads : (f : Force) (w : ℕ → Bool) → w ≡ listed (answers t q r) (has s) → Led t (answers t q r).epoch w f
      → (f.epoch ≡ highest_epoch (answers t q r) (has s)) × (f.list ≡ in_force (answers t q r) (has s))
  unfolding in_force highest_epoch
  listed-leads f w these l =
      let p = answers t q r in
      let epoch : f.epoch ≡ highest_epoch p (has s) = l.epoch ∙ ap (λ (u : ℕ → Bool). most 64 u p.epoch) these in
      let leader = lowest 64 (λ i. listed p (has s) i && eqb (p.epoch i) (highest_epoch p (has s))) in (
        epoch,
        l.list ∙ ap₂ (λ (u : ℕ → Bool) (n : ℕ). list_of t (lowest 64 (λ i. u i && eqb (p.epoch i) n))) these epoch
            ∙ sym (said leader (λ one. (listed_at p (has s) leader (and_l _ _ (lowest-in 64 _ one).1)).0)),
      )

  -- a poll of the set alone says the same of it
  same : Agree (answers t q s) (answers t q r) (has s)
  unfolding answers polled
  same = record {
    stale = λ i m. rw (m, sub i m);
    version = λ i m. rw (m, sub i m);
    desired = λ i m. rw (m, sub i m);
    epoch = λ i m. rw (m, sub i m);
    list = λ i m. rw (m, sub i m);
  }

  pub told_more : (v : Verdict) → Judged (answers t q s) (has s) v → Judged (answers t q r) (has s) v
  unfolding answers polled has
  told_more v y = record {
    tally = record {
      good = y.tally.good ∙ good-same _ _ (has s) same;
      version = y.tally.version ∙ version-same _ _ (has s) same;
      current = y.tally.current ∙ current-same _ _ (has s) same;
    };
    epoch = y.epoch ∙ epoch-same _ _ (has s) same;
    list = y.list ∙ list-is (some 64 (listed (answers t q s) (has s))) refl;
  }
    where
      list-is : (b : Bool) → some 64 (listed (answers t q s) (has s)) ≡ b → in_force (answers t q s) (has s) ≡ in_force (answers t q r) (has s)
      list-is true one = list_same _ _ (has s) same one
      list-is false none = lead-none _ (has s) none ∙ sym (lead-none _ (has s) (rw (← listed_same _ _ (has s) same) none))

  -- questions 6 and 7 are asked of it
  module _ (kind : Kind) (frame : Frame) (v : Verdict) (ef : frame ≡ frame_of t) (y : Judged (answers t q r) (has s) v) where
    pub six-is : (not (is_empty v.force.list) && list_quorum kind frame v.force.list (has s)) ≡ quorum_held kind (frame_of t) (answers t q r) (has s)
    unfolding quorum_held
    six-is =
        ap₂ (λ (f : Frame) (l : Laid). not (is_empty l) && list_quorum kind f l (has s)) ef y.list
        ∙ ap (λ (b : Bool). b && list_quorum kind (frame_of t) (in_force (answers t q r) (has s)) (has s)) (sym (held-list (answers t q r) (has s) no_place))

    pub verdict-is : (n : ℕ) → n ≡ cond (not (is_empty v.force.list) && list_quorum kind frame v.force.list (has s)) (cond v.tally.current 0 7) 6
        → n ≡ cond (quorum_held kind (frame_of t) (answers t q r) (has s)) (cond (current (answers t q r) (has s)) 0 7) 6
    verdict-is n en = en ∙ ap₂ (λ (b x : Bool). cond b (cond x 0 7) 6) six-is y.tally.current
