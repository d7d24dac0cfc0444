-- The first no is the refusal: what a done call has passed, and what a refused one leaves.
use mathlib.Core.Path.{◌≡◌, refl, sym, ◌∙◌}
use mathlib.Core.Bool.{Bool, true, false, not, cond, ◌&&◌, ◌||◌}
use mathlib.Core.List.{List, [], ◌∷◌}
use Prim.Native.Nat.{ℕ, zero, suc, ◌+◌, ◌^◌, ◌≤◌, ◌<◌}
use native.Mathlib.Omega.{arith}
use lib.Dec.{eqb, leb, ltb, eqb-suc-zero}
use lib.ListN.{length}
use borrow.Author.Tests.{eqb-true, eqb-false, eq-eqb, ltb-true, leb-true, not-true}
use Rattle.sets.specs.Upto.{Within, every, some}
use Rattle.sets.specs.Sets.{has}
use Rattle.bools.proofs.BoolLaws.{and_l, and_r, clash}
use Rattle.sets.proofs.UptoLaws.{some_of}
use Rattle.sets.proofs.SetLaws.{has_within}
use Rattle.quorums.specs.declared.Kind.TheVariants.{Read, Write}
use Rattle.fields.specs.Layout.{form_of, capacity_of, used_of, name_of, file_length_of, files_of, stale_of, version_of, desired_of}
use Rattle.table.specs.Chain.{frame_of}
use Rattle.table.specs.WellFormed.{between, is_county, limit, only_rows, own_form, well_formed}
use Rattle.table.proofs.FormLaws.{between_is}
use Rattle.protocol.specs.Polls.{highest_epoch, in_force, good_version, current, quorum_held}
use Rattle.asking.specs.Asking.{Question, first_no, before}
use Rattle.sheet.specs.Sheet.{sheet_right, by_club}
use Rattle.sheet.proofs.SheetLaws.{by-club}
use Rattle.asking.proofs.AskingLaws.{yes-first, no-first, before-other}
use Rattle.carrying.specs.Moves.{goes_over, all_plain, carried_length}
use Rattle.protocol.specs.Calls

-- ---- the first no
done-zero : (t : List ℕ) (k : Calls.Call) → (Calls.done t k).refusal ≡ 0
unfolding Calls.done
done-zero t (Calls.founding a) = refl
done-zero t (Calls.join a) = refl
done-zero t (Calls.read a) = refl
done-zero t (Calls.write a) = refl
done-zero t (Calls.send a) = refl
done-zero t (Calls.check a) = refl
done-zero t (Calls.carry a) = refl

done-called : (t : List ℕ) (k : Calls.Call) → (Calls.done t k).called ≡ Calls.called_after t k
unfolding Calls.done
done-called t (Calls.founding a) = refl
done-called t (Calls.join a) = refl
done-called t (Calls.read a) = refl
done-called t (Calls.write a) = refl
done-called t (Calls.send a) = refl
done-called t (Calls.check a) = refl
done-called t (Calls.carry a) = refl

module _ (t : List ℕ) (k : Calls.Call) where
  -- the refusal is the first no
  pub refusal_is : (Calls.outcome t k).refusal ≡ first_no (Calls.questions t k)
  unfolding Calls.outcome Calls.refused
  refusal_is = go (first_no (Calls.questions t k)) refl
    where
      go : (n : ℕ) → first_no (Calls.questions t k) ≡ n → (cond (eqb n 0) (Calls.done t k) (Calls.refused t k n)).refusal ≡ n
      go zero e = done-zero t k
      go (suc n) e = rw (eqb-suc-zero n)

  pub when-done : (Calls.outcome t k).refusal ≡ 0 → Calls.outcome t k ≡ Calls.done t k
  unfolding Calls.outcome
  when-done h = let z : first_no (Calls.questions t k) ≡ 0 = sym refusal_is ∙ h in rw (eq-eqb _ _ z)

  -- the size of the set called is noted, done or refused
  pub called_is : (Calls.outcome t k).called ≡ Calls.called_after t k
  unfolding Calls.outcome Calls.refused
  called_is = go (eqb (first_no (Calls.questions t k)) 0)
    where
      go : (b : Bool) → (cond b (Calls.done t k) (Calls.refused t k (first_no (Calls.questions t k)))).called ≡ Calls.called_after t k
      go true = done-called t k
      go false = refl

  -- a refusal has value 0 and alters no byte of table, buffer or sheet
  pub when-refused : ((Calls.outcome t k).refusal ≡ 0 → ⊥) → ((Calls.outcome t k).value ≡ 0) × ((Calls.outcome t k).table ≡ t) × ((Calls.outcome t k).buffer ≡ Calls.lent k) × ((Calls.outcome t k).sheet ≡ Calls.lent_sheet k)
  unfolding Calls.outcome Calls.refused
  when-refused d = go (first_no (Calls.questions t k)) refl
    where
      go : (n : ℕ) → first_no (Calls.questions t k) ≡ n
          → let o = cond (eqb n 0) (Calls.done t k) (Calls.refused t k n) in (o.value ≡ 0) × (o.table ≡ t) × (o.buffer ≡ Calls.lent k) × (o.sheet ≡ Calls.lent_sheet k)
      go zero e = absurd (d (refusal_is ∙ e))
      go (suc n) e = rw (eqb-suc-zero n) (refl, refl, refl, refl)

-- ---- what a done call has passed
pub record ByCoordinator (t : List ℕ) (c r : ℕ) : Type 0 where
  pub formed : well_formed t ≡ true
  pub coordinator : Within (used_of t) c
  pub rows : r < 2 ^ used_of t
  pub answered : has r c ≡ true

used-is : (t : List ℕ) (i : ℕ) → Calls.is_used t i ≡ true → Within (used_of t) i
unfolding Calls.is_used
used-is t i h = between_is 1 i (used_of t) h

only-is : (n s : ℕ) → only_rows n s ≡ true → s < 2 ^ n
unfolding only_rows
only-is n s h = ltb-true s (2 ^ n) h

module _ (t : List ℕ) (c r : ℕ) (qs : List Question) where
  -- what passes 1 to 3 and then qs; of any questions in their place it meets the first no
  pub passed_first : first_no (Calls.by_coordinator t c r qs) ≡ 0
      → ByCoordinator t c r × (first_no qs ≡ 0) × ((rs : List Question) → first_no (Calls.by_coordinator t c r rs) ≡ first_no rs)
  unfolding Calls.by_coordinator
  passed_first h =
      let a = yes-first 0 (well_formed t) _ h in
      let b = yes-first 1 (Calls.is_used t c && only_rows (used_of t) r) _ a.1 in
      let d = yes-first 2 (has r c) qs b.1 in (
        record {
          formed = a.0;
          coordinator = used-is t c (and_l _ _ b.0);
          rows = only-is (used_of t) r (and_r (Calls.is_used t c) _ b.0);
          answered = d.0;
        },
        d.1,
        λ rs. no-first 1 (well_formed t) _ a.0 ∙ no-first 2 (Calls.is_used t c && only_rows (used_of t) r) _ b.0 ∙ no-first 3 (has r c) rs d.0,
      )

  -- 1 to 3 come before any other
  pub early-is : (n : ℕ) → 3 < n → before n (Calls.by_coordinator t c r qs) ≡ Calls.by_coordinator t c r (before n qs)
  unfolding Calls.by_coordinator
  early-is n h = rw (before-other n 1 (well_formed t) _ (λ e. omega arith), before-other n 2 (Calls.is_used t c && only_rows (used_of t) r) _ (λ e. omega arith), before-other n 3 (has r c) qs (λ e. omega arith))

  -- rows that answered are used rows
  pub answered-used : ByCoordinator t c r → (i : ℕ) → has r i ≡ true → Within (used_of t) i
  answered-used b i m = has_within (used_of t) r i b.rows m

-- what passes the questions before n, and then meets the others
pub early-passed : (t : List ℕ) (c r : ℕ) (qs : List Question) (n : ℕ) → 3 < n → first_no (before n (Calls.by_coordinator t c r qs)) ≡ 0
    → ByCoordinator t c r × (first_no (before n qs) ≡ 0) × (first_no (Calls.by_coordinator t c r qs) ≡ first_no qs)
early-passed t c r qs n l h = let a = passed_first t c r (before n qs) (rw (early-is t c r qs n l) at h) in (a.0, a.1, a.2 qs)

pub record JoinYes (t : List ℕ) (a : Calls.Joining) : Type 0 where
  pub formed : well_formed t ≡ true
  pub named : Within 65_535 a.name
  pub free : (i : ℕ) → Within (used_of t) i → name_of t i ≡ a.name → ⊥
  pub room : used_of t < capacity_of t
  pub placed : Within 8 a.county

pub county-is : (y : ℕ) → is_county y ≡ true → Within 8 y
unfolding is_county
county-is y h = between_is 1 y 8 h

pub join-yes : (t : List ℕ) (a : Calls.Joining) → first_no (Calls.questions t (Calls.join a)) ≡ 0 → JoinYes t a
unfolding Calls.questions
join-yes t a h =
    let x = yes-first 0 (well_formed t) _ h in
    let b = yes-first 12 (between 1 a.name 65_535 && not (some (used_of t) (λ i. eqb (name_of t i) a.name))) _ x.1 in
    let d = yes-first 13 (ltb (used_of t) (capacity_of t)) _ b.1 in
    let p = yes-first 19 (is_county a.county) _ d.1 in
    let none : some (used_of t) (λ i. eqb (name_of t i) a.name) ≡ false = not-true _ (and_r (between 1 a.name 65_535) _ b.0) in
    record {
      formed = x.0;
      named = between_is 1 a.name 65_535 (and_l _ _ b.0);
      free = λ i w q. clash (sym none ∙ some_of (used_of t) _ i w (eq-eqb _ _ q));
      room = ltb-true _ _ d.0;
      placed = county-is a.county p.0;
    }

pub record ReadYes (t : List ℕ) (a : Calls.Reading) : Type 0 where
  pub first : ByCoordinator t a.c a.r
  pub group : Within (files_of t) a.file
  pub range : (1 ≤ a.count) × (a.offset + a.count ≤ file_length_of t)
  pub byte : eqb (length a.called) 1 ≡ true
  pub quorum : quorum_held Read (frame_of t) (Calls.answers t a.file a.r) (Calls.work_set Read t a.file a.c a.r) ≡ true
  pub current : current (Calls.answers t a.file a.r) (Calls.work_set Read t a.file a.c a.r) ≡ true

pub group-is : (t : List ℕ) (q : ℕ) → Calls.in_group t q ≡ true → Within (files_of t) q
unfolding Calls.in_group
group-is t q h = between_is 1 q (files_of t) h

range-is : (t : List ℕ) (offset count : ℕ) → Calls.in_file t offset count ≡ true → (1 ≤ count) × (offset + count ≤ file_length_of t)
unfolding Calls.in_file
range-is t offset count h = (leb-true 1 count (and_l _ _ h), leb-true _ _ (and_r (leb 1 count) _ h))

pub read-yes : (t : List ℕ) (a : Calls.Reading) → first_no (Calls.questions t (Calls.read a)) ≡ 0 → ReadYes t a
unfolding Calls.questions
read-yes t a h =
    let x = passed_first t a.c a.r _ h in
    let k = yes-first 15 (Calls.in_group t a.file) _ x.1 in
    let d = yes-first 3 (Calls.in_file t a.offset a.count) _ k.1 in
    let e = yes-first 4 (eqb (length a.buffer) a.count && eqb (length a.called) 1) _ d.1 in
    let q = yes-first 5 (quorum_held Read (frame_of t) (Calls.answers t a.file a.r) (Calls.work_set Read t a.file a.c a.r)) _ e.1 in
    let m = yes-first 6 (current (Calls.answers t a.file a.r) (Calls.work_set Read t a.file a.c a.r)) _ q.1 in
    record {
      first = x.0;
      group = group-is t a.file k.0;
      range = range-is t a.offset a.count d.0;
      byte = and_r (eqb (length a.buffer) a.count) _ e.0;
      quorum = q.0;
      current = m.0;
    }

-- the questions put to a write after 3
abbrev pub after_three : List ℕ → Calls.Writing → List Question
after_three t a =
    let p = Calls.answers t a.file a.r in
    let s = Calls.work_set Write t a.file a.c a.r in
    record { ask = 16; yes = Calls.in_group t a.file }
    ∷ record { ask = 4; yes = Calls.in_file t a.offset (length a.patch) }
    ∷ record { ask = 5; yes = eqb (length a.called) 1 }
    ∷ record { ask = 6; yes = quorum_held Write (frame_of t) p s }
    ∷ record { ask = 7; yes = current p s }
    ∷ by_club a.sheet a.club (record { ask = 8; yes = ltb (good_version p s) limit } ∷ [])

pub record WriteYes (t : List ℕ) (a : Calls.Writing) : Type 0 where
  pub sheet : sheet_right a.sheet ≡ true
  pub first : ByCoordinator t a.c a.r
  pub group : Within (files_of t) a.file
  pub range : (1 ≤ length a.patch) × (a.offset + length a.patch ≤ file_length_of t)
  pub byte : eqb (length a.called) 1 ≡ true
  pub quorum : quorum_held Write (frame_of t) (Calls.answers t a.file a.r) (Calls.work_set Write t a.file a.c a.r) ≡ true
  pub current : current (Calls.answers t a.file a.r) (Calls.work_set Write t a.file a.c a.r) ≡ true
  pub club : first_no (by_club a.sheet a.club []) ≡ 0
  pub room : good_version (Calls.answers t a.file a.r) (Calls.work_set Write t a.file a.c a.r) < limit

pub write-yes : (t : List ℕ) (a : Calls.Writing) → first_no (Calls.questions t (Calls.write a)) ≡ 0 → WriteYes t a
unfolding Calls.questions
write-yes t a h =
    let z = yes-first 0 (sheet_right a.sheet) _ h in
    let x = passed_first t a.c a.r _ z.1 in
    let k = yes-first 15 (Calls.in_group t a.file) _ x.1 in
    let d = yes-first 3 (Calls.in_file t a.offset (length a.patch)) _ k.1 in
    let e = yes-first 4 (eqb (length a.called) 1) _ d.1 in
    let q = yes-first 5 (quorum_held Write (frame_of t) (Calls.answers t a.file a.r) (Calls.work_set Write t a.file a.c a.r)) _ e.1 in
    let m = yes-first 6 (current (Calls.answers t a.file a.r) (Calls.work_set Write t a.file a.c a.r)) _ q.1 in
    let n = by-club a.sheet a.club _ m.1 in
    let l = yes-first 7 (ltb (good_version (Calls.answers t a.file a.r) (Calls.work_set Write t a.file a.c a.r)) limit) _ n.1 in
    record {
      sheet = z.0;
      first = x.0;
      group = group-is t a.file k.0;
      range = range-is t a.offset (length a.patch) d.0;
      byte = e.0;
      quorum = q.0;
      current = m.0;
      club = n.0;
      room = ltb-true _ _ l.0;
    }

pub record SendYes (t : List ℕ) (a : Calls.Sending) : Type 0 where
  pub formed : well_formed t ≡ true
  pub from-used : Within (used_of t) a.f
  pub to-used : Within (used_of t) a.t
  pub rows : a.r < 2 ^ used_of t
  pub apart : a.f ≡ a.t → ⊥
  pub group : Within (files_of t) a.file
  pub from-answered : has a.r a.f ≡ true
  pub to-answered : has a.r a.t ≡ true
  pub clean : stale_of t a.file a.f ≡ false
  pub mark : stale_of t a.file a.t ≡ true
  pub enough : desired_of t a.file a.t ≤ version_of t a.file a.f

pub send-yes : (t : List ℕ) (a : Calls.Sending) → first_no (Calls.questions t (Calls.send a)) ≡ 0 → SendYes t a
unfolding Calls.questions
send-yes t a h =
    let x = yes-first 0 (well_formed t) _ h in
    let b = yes-first 1 (Calls.is_used t a.f && Calls.is_used t a.t && only_rows (used_of t) a.r && not (eqb a.f a.t)) _ x.1 in
    let d = yes-first 2 (has a.r a.f && has a.r a.t) _ b.1 in
    let k = yes-first 15 (Calls.in_group t a.file) _ d.1 in
    let e = yes-first 8 (not (stale_of t a.file a.f)) _ k.1 in
    let g = yes-first 9 (stale_of t a.file a.t && leb (desired_of t a.file a.t) (version_of t a.file a.f)) _ e.1 in
    let b1 = and_l (Calls.is_used t a.f && Calls.is_used t a.t && only_rows (used_of t) a.r) _ b.0 in
    let b2 = and_l (Calls.is_used t a.f && Calls.is_used t a.t) _ b1 in
    record {
      formed = x.0;
      from-used = used-is t a.f (and_l _ _ b2);
      to-used = used-is t a.t (and_r (Calls.is_used t a.f) _ b2);
      rows = only-is (used_of t) a.r (and_r (Calls.is_used t a.f && Calls.is_used t a.t) _ b1);
      apart = eqb-false a.f a.t (not-true _ (and_r (Calls.is_used t a.f && Calls.is_used t a.t && only_rows (used_of t) a.r) _ b.0));
      group = group-is t a.file k.0;
      from-answered = and_l _ _ d.0;
      to-answered = and_r (has a.r a.f) _ d.0;
      clean = not-true _ e.0;
      mark = and_l _ _ g.0;
      enough = leb-true _ _ (and_r (stale_of t a.file a.t) _ g.0);
    }

pub record CheckYes (t : List ℕ) (a : Calls.Checking) : Type 0 where
  pub sheet : sheet_right a.sheet ≡ true
  pub first : ByCoordinator t a.c a.r
  pub quorum : quorum_held Write (frame_of t) (Calls.answers t 1 a.r) (has a.r) ≡ true
  pub current : (eqb a.r (in_force (Calls.answers t 1 a.r) (has a.r)).members || every (files_of t) (λ q. current (Calls.answers t q a.r) (has a.r))) ≡ true
  pub room : (eqb a.r (in_force (Calls.answers t 1 a.r) (has a.r)).members || ltb (highest_epoch (Calls.answers t 1 a.r) (has a.r)) limit) ≡ true

pub check-yes : (t : List ℕ) (a : Calls.Checking) → first_no (Calls.questions t (Calls.check a)) ≡ 0 → CheckYes t a
unfolding Calls.questions
check-yes t a h =
    let z = yes-first 0 (sheet_right a.sheet) _ h in
    let x = passed_first t a.c a.r _ z.1 in
    let q = yes-first 5 (quorum_held Write (frame_of t) (Calls.answers t 1 a.r) (has a.r)) _ x.1 in
    let m = yes-first 6 (eqb a.r (in_force (Calls.answers t 1 a.r) (has a.r)).members || every (files_of t) (λ q. current (Calls.answers t q a.r) (has a.r))) _ q.1 in
    let l = yes-first 7 (eqb a.r (in_force (Calls.answers t 1 a.r) (has a.r)).members || ltb (highest_epoch (Calls.answers t 1 a.r) (has a.r)) limit) _ m.1 in
    record { sheet = z.0; first = x.0; quorum = q.0; current = m.0; room = l.0 }

pub record CarryYes (t : List ℕ) (a : Calls.Carrying) : Type 0 where
  pub own : own_form t ≡ true
  pub plain : a.form ≡ 1 → all_plain t ≡ true
  pub over : goes_over (form_of t) a.form ≡ true
  pub long : length a.dest ≡ carried_length a.form t

pub carry-yes : (t : List ℕ) (a : Calls.Carrying) → first_no (Calls.questions t (Calls.carry a)) ≡ 0 → CarryYes t a
unfolding Calls.questions
carry-yes t a h =
    let x = yes-first 0 (own_form t) _ h in
    let b = yes-first 14 (not (eqb a.form 1) || all_plain t) _ x.1 in
    let d = yes-first 11 (goes_over (form_of t) a.form && eqb (length a.dest) (carried_length a.form t)) _ b.1 in
    record {
      own = x.0;
      plain = λ e. rw (eq-eqb a.form 1 e) at b.0;
      over = and_l _ _ d.0;
      long = eqb-true _ _ (and_r (goes_over (form_of t) a.form) _ d.0);
    }
