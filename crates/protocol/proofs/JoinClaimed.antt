-- The claims on rows with an empty list and on joining, proved.
use mathlib.Core.Path.{◌≡◌, refl, sym, ◌∙◌, ap, ap₂, fun_ext}
use mathlib.Core.Bool.{Bool, true, false, not, cond, ◌&&◌, and-false, and-true}
use mathlib.Core.Logic.{⊎_elim}
use mathlib.Core.List.{List, [], ◌∷◌, ◌++◌}
use Prim.Native.Nat.{ℕ, zero, suc, ◌^◌, ◌≤◌, ◌<◌}
use native.Mathlib.Decide.{ℕ_discrete}
use native.Mathlib.Omega.{arith}
use lib.Dec.{eqb, ltb}
use lib.ListN.{take, drop}
use lib.Seq.{take-add, drop-drop}
use borrow.Author.Tests.{eqb-true, ne_eqb}
use Rattle.bools.proofs.BoolLaws.{clash, same_test}
use Rattle.sets.specs.Upto.{Within, some, lowest, most}
use Rattle.sets.specs.Sets.{has, losing, cut_to}
use Rattle.sets.proofs.UptoLaws.{last, some-none, some-ext}
use Rattle.sets.proofs.SetLaws.{empty-at, has_within}
use Rattle.quorums.specs.declared.Kind.{Kind}
use Rattle.quorums.specs.declared.Kind.TheVariants.{Write}
use Rattle.octets.specs.Bytes.{part}
use Rattle.fields.specs.declared.Laid.{Laid}
use Rattle.fields.specs.Layout.{no_list, is_empty, capacity, capacity_of, used_of, first_of, name_of, link_of, county_of, row_bytes}
use Rattle.table.specs.Chain.{order_of, frame_of}
use Rattle.table.proofs.RisingLaws.{order-within}
use Rattle.linking.specs.Linking.{last_of, behind, inserted}
use Rattle.linking.proofs.InsertLaws.{last-same}
use Rattle.joining.specs.Claims.{OneMore}
use Rattle.joining.proofs.FrameLaws.{before-used, joined-alters}
use Rattle.joining.specs.Joining.{row_before}
use Rattle.joining.proofs.OrderLaws.{Joined, joined-order}
use Rattle.joining.proofs.RowLaws.{link-after, county-kept, county-new, more-chain}
use Rattle.counties.specs.Levels.{seats}
use Rattle.counties.specs.Counties.{Frame, list_quorum, list_choice}
use Rattle.counties.specs.Claims.{ChosenPass}
use Rattle.counties.proofs.TwoLevelLaws.{chosen-pass}
use Rattle.protocol.specs.Polls.{Poll, listed, highest_epoch, in_force, quorum_held, own_try, stays, worked_on}
use Rattle.protocol.specs.Calls.{Joining, join, questions, done, outcome}
use Rattle.protocol.specs.Claims
use Rattle.asking.specs.Asking.{first_no}
use Rattle.protocol.proofs.ListLaws.{seats-more, quorum-more, choice-more}
use Rattle.protocol.proofs.PollLaws.{listed_at}
use Rattle.protocol.proofs.QuestionLaws.{refusal_is, when-done, when-refused, JoinYes, join-yes}
use Rattle.protocol.proofs.Unanswered.{used-same, file-same, files-same, first-same, order_same, header, get-same}

-- ---- a row with an empty list
-- S without it has the same rows that have a list
without : (p : Poll) (s : ℕ → Bool) (i : ℕ) → is_empty (p.list i) ≡ true → (j : ℕ) → listed p (losing s i) j ≡ listed p s j
unfolding listed losing
without p s i z j = go (ℕ_discrete j i)
  where
    go : Dec (j ≡ i) → ((s j && not (eqb j i)) && not (is_empty (p.list j))) ≡ (s j && not (is_empty (p.list j)))
    go (yes q) = let e : is_empty (p.list j) ≡ true = ap (λ (k : ℕ). is_empty (p.list k)) q ∙ z in rw (e, and-false (s j && not (eqb j i)), and-false (s j))
    go (no d) = rw (ne_eqb j i d, and-true (s j))

pub empty-passed-over : Claims.EmptyPassedOver
unfolding Claims.EmptyPassedOver highest_epoch in_force
empty-passed-over p s i z =
    (ap (λ (l : ℕ → Bool). most 64 l p.epoch) same, ap (λ (l : ℕ → Bool). p.list (lowest 64 (λ j. l j && eqb (p.epoch j) (most 64 l p.epoch)))) same)
  where
    same : listed p (losing s i) ≡ listed p s
    same = fun_ext (without p s i z)

-- an empty list has no choice
no-choice : (kind : Kind) (f : Frame) (l : Laid) (a i : ℕ) → is_empty l ≡ true → list_choice kind f l a i ≡ false
unfolding list_choice is_empty ChosenPass
no-choice kind f l a i z =
    let none : has l.members i ≡ false = ap (λ (m : ℕ). has m i) (eqb-true _ _ z) ∙ empty-at i in
    same_test _ false (λ h. absurd (clash (sym none ∙ chosen-pass kind l.mark f (has l.members) a i h))) (λ e. absurd (clash e))

-- a set that only has rows with an empty list holds no quorum
pub only-empty-refused : Claims.OnlyEmptyRefused
unfolding Claims.OnlyEmptyRefused quorum_held
only-empty-refused kind f p s none = ap (λ (b : Bool). b && list_quorum kind f (in_force p s) s) (some-none 64 (listed p s) (λ i w. out i (listed p s i) refl))
  where
    out : (i : ℕ) (b : Bool) → listed p s i ≡ b → b ≡ false
    out i true m = let l = listed_at p s i m in absurd (clash (sym l.1 ∙ none i l.0))
    out i false m = refl

pub empty-works-on-r : Claims.EmptyWorksOnR
unfolding Claims.EmptyWorksOnR Claims.OnlyEmptyRefused worked_on stays own_try cut_to
empty-works-on-r kind f p c a r z =
    let none : (i : ℕ) → (list_choice kind f (p.list c) a i && r i) ≡ false = λ i. ap (λ (b : Bool). b && r i) (no-choice kind f (p.list c) a i z) in
    let six = only-empty-refused kind f p (λ i. list_choice kind f (p.list c) a i && r i) (λ i m. absurd (clash (sym (none i) ∙ m))) in
    rw six

-- met with: row 1 has no list, row 2 has one, and both answer
abbrev one_unlisted : Poll
one_unlisted = record {
  stale = λ i. false;
  version = λ i. 0;
  desired = λ i. 0;
  epoch = λ i. 0;
  list = λ i. cond (eqb i 1) no_list (record { members = 2; mark = 0 });
}

abbrev both_rows : Frame
both_rows = record { order = 1 ∷ 2 ∷ []; county = λ i. 1 }

pub unlisted-works-on-r : (i : ℕ) → worked_on Write both_rows one_unlisted 1 10 (has 3) i ≡ has 3 i
unfolding Claims.EmptyWorksOnR is_empty no_list
unlisted-works-on-r i = ap (λ (s : ℕ → Bool). s i) (empty-works-on-r Write both_rows one_unlisted 1 10 (has 3) refl)

-- ---- joining
module _ (t : List ℕ) (a : Joining) (h : (outcome t (join a)).refusal ≡ 0) where
  y : JoinYes t a
  y = join-yes t a (sym (refusal_is t (join a)) ∙ h)

  alters : OneMore t (done t (join a)).table a.name a.county
  unfolding done
  alters = joined-alters t y.formed a.name y.room a.county

  order : order_of (done t (join a)).table ≡ inserted (name_of t) a.name (suc (used_of t)) (order_of t)
  order = joined-order t y.formed _ a.name (more-chain t _ a.name a.county y.formed y.room alters y.named y.placed y.free)

  -- the new row is in no list of rows that were used before
  outside : (l : Laid) → l.members < 2 ^ used_of t → has l.members (suc (used_of t)) ≡ false
  outside l s = same_test _ false (λ m. absurd (omega (arith, has_within (used_of t) l.members (suc (used_of t)) s m))) (λ z. absurd (clash z))

  -- and its members keep their counties
  counties-stay : (l : Laid) → l.members < 2 ^ used_of t → (i : ℕ) → has l.members i ≡ true → county_of (done t (join a)).table i ≡ county_of t i
  counties-stay l s i m = county-kept t _ a.name a.county y.formed y.room alters i (has_within (used_of t) l.members i s m)

  lists : Claims.KeepsLists t (done t (join a)).table a.name
  unfolding frame_of
  lists = record {
    order = order;
    positions = λ l s. ap (λ (o : List ℕ). seats o (has l.members)) order ∙ seats-more (name_of t) a.name (suc (used_of t)) (order_of t) l (outside l s);
    quorums = λ l s kind r. ap (λ (o : List ℕ). list_quorum kind (record { order = o; county = county_of (done t (join a)).table }) l r) order
        ∙ quorum-more (name_of t) a.name (suc (used_of t)) (order_of t) l (outside l s) (county_of t) (county_of (done t (join a)).table) (counties-stay l s) kind r;
    choices = λ l s kind x i. ap (λ (o : List ℕ). list_choice kind (record { order = o; county = county_of (done t (join a)).table }) l x i) order
        ∙ choice-more (name_of t) a.name (suc (used_of t)) (order_of t) l (outside l s) (county_of t) (county_of (done t (join a)).table) (counties-stay l s) kind x i;
  }

pub join-alters : Claims.JoinAlters
unfolding Claims.JoinAlters
join-alters t a h = rw (when-done t (join a) h) (alters t a h)

pub join-keeps-lists : Claims.JoinKeepsLists
unfolding Claims.JoinKeepsLists
join-keeps-lists t a h = rw (when-done t (join a) h) (lists t a h)

-- ---- a joining sees header, names, links and counties alone
head-by-parts : (xs : List ℕ) → take 16 xs ≡ (part 0 2 xs ++ (part 2 1 xs ++ part 3 1 xs)) ++ part 4 12 xs
unfolding part
head-by-parts xs =
    take-add 4 12 xs ∙ ap (λ (l : List ℕ). l ++ part 4 12 xs) (take-add 2 2 xs ∙ ap (λ (l : List ℕ). take 2 xs ++ l) (take-add 1 1 (drop 2 xs) ∙ ap (λ (l : List ℕ). take 1 (drop 2 xs) ++ take 1 l) (drop-drop 1 2 xs)))

module _ {t u : List ℕ} (E : Claims.EqualIn 0 t u) (a : Joining) where
  capacity-same : capacity_of u ≡ capacity_of t
  unfolding capacity_of capacity
  capacity-same = get-same E capacity (omega arith)

  asks-same : first_no (questions u (join a)) ≡ first_no (questions t (join a))
  unfolding questions first_no
  asks-same =
      let free : some (used_of t) (λ i. eqb (name_of u i) a.name) ≡ some (used_of t) (λ i. eqb (name_of t i) a.name) =
      some-ext (used_of t) _ _ (λ i w. ap (λ (n : ℕ). eqb n a.name) (sym (E.names i w))) in
      rw (E.formed, E.formed-too, used-same E, capacity-same, free)

  -- the row before the name, and the row behind that one
  before_same : row_before u a.name ≡ row_before t a.name
  unfolding row_before
  before_same = ap (last_of (λ i. ltb (name_of u i) a.name) 0) (order_same E)
      ∙ last-same _ _ 0 (order_of t) (λ j m. ap (λ (n : ℕ). ltb n a.name) (sym (E.names j (order-within t E.formed j m))))

  module _ (h : (outcome t (join a)).refusal ≡ 0) (g : (outcome u (join a)).refusal ≡ 0) where
    yt : JoinYes t a
    yt = y t a h

    yu : JoinYes u a
    yu = y u a g

    behind-same : behind (first_of u) (link_of u) (row_before u a.name) ≡ behind (first_of t) (link_of t) (row_before t a.name)
    unfolding behind
    behind-same = rw (before_same, first-same E) (go (row_before t a.name) (before-used t E.formed a.name yt.room))
      where
        go : (p : ℕ) → p ≤ used_of t → cond (eqb p 0) (first_of t) (link_of u p) ≡ cond (eqb p 0) (first_of t) (link_of t p)
        go zero l = refl
        go (suc k) l = ap (λ (n : ℕ). cond (eqb (suc k) 0) (first_of t) n) (sym (E.links (suc k) (omega arith)))

    ot : OneMore t (done t (join a)).table a.name a.county
    ot = alters t a h

    ou : OneMore u (done u (join a)).table a.name a.county
    ou = alters u a g

    ct : Joined t (done t (join a)).table a.name
    ct = more-chain t _ a.name a.county E.formed yt.room ot yt.named yt.placed yt.free

    cu : Joined u (done u (join a)).table a.name
    cu = more-chain u _ a.name a.county E.formed-too yu.room ou yu.named yu.placed yu.free

    header-same : take 16 (done t (join a)).table ≡ take 16 (done u (join a)).table
    header-same = by_parts (done t (join a)).table ∙ ap₂ (λ (x y : List ℕ). x ++ y) low high ∙ sym (by_parts (done u (join a)).table)
      where
        by_parts : (xs : List ℕ) → take 16 xs ≡ (part 0 2 xs ++ (part 2 1 xs ++ part 3 1 xs)) ++ part 4 12 xs
        by_parts xs = head-by-parts xs

        low : (part 0 2 (done t (join a)).table ++ (part 2 1 (done t (join a)).table ++ part 3 1 (done t (join a)).table))
            ≡ (part 0 2 (done u (join a)).table ++ (part 2 1 (done u (join a)).table ++ part 3 1 (done u (join a)).table))
        low = rw (ot.low, ou.low, ot.count, ou.count, ot.front, ou.front, used-same E, first-same E, before_same, header E 0 2 (omega arith))

        high : part 4 12 (done t (join a)).table ≡ part 4 12 (done u (join a)).table
        high = ot.high ∙ sym (header E 4 12 (omega arith)) ∙ sym ou.high

    done-alike : Claims.JoinsAlike t (done t (join a)) (done u (join a))
    unfolding done row_before
    done-alike = record {
      refusal = refl;
      value = ap suc (sym (used-same E));
      header = header-same;
      names = rw ct.used (λ i v. ⊎_elim
          (λ q. rw q (ct.new ∙ sym cu.new ∙ ap (name_of (done u (join a)).table) (ap suc (used-same E))))
          (λ w. ct.names i w ∙ E.names i w ∙ sym (cu.names i (rw (used-same E) w)))
          (last (used_of t) i v));
      links = rw ct.used (λ i v. ⊎_elim
          (λ q. rw q (ct.links.onto ∙ sym behind-same ∙ sym cu.links.onto ∙ ap (link_of (done u (join a)).table) (ap suc (used-same E))))
          (λ w. link-after t _ a.name a.county E.formed yt.room ot i w ∙ linked i w ∙ sym (link-after u _ a.name a.county E.formed-too yu.room ou i (rw (used-same E) w)))
          (last (used_of t) i v));
      counties = rw ct.used (λ i v. ⊎_elim
          (λ q. rw q (county-new t _ a.name a.county E.formed yt.room ot yt.named yt.placed yt.free ∙ sym (county-new u _ a.name a.county E.formed-too yu.room ou yu.named yu.placed yu.free) ∙ ap (county_of (done u (join a)).table) (ap suc (used-same E))))
          (λ w. county-kept t _ a.name a.county E.formed yt.room ot i w ∙ E.counties i w ∙ sym (county-kept u _ a.name a.county E.formed-too yu.room ou i (rw (used-same E) w)))
          (last (used_of t) i v));
      new = λ z. ot.new ∙ rw (← behind-same, ← file-same E, ← files-same E) (sym ou.new) ∙ ap (row_bytes (done u (join a)).table) (ap suc (used-same E));
    }
      where
        linked : (i : ℕ) → Within (used_of t) i → cond (eqb (row_before t a.name) i) (suc (used_of t)) (link_of t i) ≡ cond (eqb (row_before u a.name) i) (suc (used_of u)) (link_of u i)
        linked i w = rw (before_same, used-same E) (ap (λ (n : ℕ). cond (eqb (row_before t a.name) i) (suc (used_of t)) n) (E.links i w))

pub join-sees : Claims.JoinSees
unfolding Claims.JoinSees
join-sees t u a E = go (outcome t (join a)).refusal refl
  where
    same : (outcome u (join a)).refusal ≡ (outcome t (join a)).refusal
    same = refusal_is u (join a) ∙ asks-same E a ∙ sym (refusal_is t (join a))

    go : (n : ℕ) → (outcome t (join a)).refusal ≡ n → Claims.JoinsAlike t (outcome t (join a)) (outcome u (join a))
    go zero q = rw (when-done t (join a) q, when-done u (join a) (same ∙ q)) (done-alike E a q (same ∙ q))
    go (suc n) q =
        let x = when-refused t (join a) (λ z. omega arith) in
        let z = when-refused u (join a) (λ z. omega (arith, same)) in
        record {
          refusal = sym same;
          value = x.0 ∙ sym z.0;
          header = rw (x.1, z.1) E.header;
          names = rw (x.1, z.1) E.names;
          links = rw (x.1, z.1) E.links;
          counties = rw (x.1, z.1) E.counties;
          new = λ d. absurd (omega arith);
        }
