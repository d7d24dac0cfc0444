-- A joining keeps what holds of the rows and the book.
use mathlib.Core.Path.{◌≡◌, refl, sym, ◌∙◌, ap, subst, subst₂}
use mathlib.Core.Bool.{Bool, true, false, not, cond, ◌&&◌, and-true, and-false}
use mathlib.Core.Logic.{⊎_elim}
use mathlib.Core.List.{List, [], ◌∷◌, ◌++◌}
use Prim.Native.Nat.{ℕ, suc, ◌+◌, ◌-◌, ◌^◌, ◌≤◌, ◌<◌}
use native.Mathlib.Nat.{lt_of_lt_of_le}
use native.Mathlib.Omega.{arith}
use lib.Dec.{eqb}
use lib.Pow.{pow_mono}
use lib.ListN.{length, get_or, length-append, get_or-append}
use lib.Seq.{get_or-append-add}
use borrow.Author.Tests.{eq-eqb, ne_eqb, le-leb, lt-leb}
use Rattle.bools.proofs.BoolLaws.{clash, same_test}
use Rattle.sets.specs.Upto.{Within}
use Rattle.sets.specs.Sets.{has}
use Rattle.sets.proofs.UptoLaws.{last}
use Rattle.sets.proofs.SetLaws.{has_within}
use Rattle.quorums.specs.declared.Kind.{Kind}
use Rattle.quorums.specs.declared.Kind.TheVariants.{Read}
use Rattle.octets.specs.Bytes.{zeros}
use Rattle.fields.specs.declared.Laid.{Laid}
use Rattle.fields.specs.Layout.{no_list, is_empty}
use Rattle.linking.specs.Linking.{inserted, by_name}
use Rattle.linking.proofs.NameLaws.{by_name-same}
use Rattle.counties.specs.Counties.{county_at, list_quorum}
use Rattle.protocol.specs.Polls.{Poll}
use Rattle.protocol.proofs.ListLaws.{inhabited, has-list, quorum-more}
use Rattle.history.specs.Book.{Book, name_in, county_in, frame, admitted}
use Rattle.history.proofs.Invariant.{aim, Epochs, Versions, Inv}
use Rattle.history.proofs.Steps.{Is, Stays, versions-of, aim-of}

-- ---- the book's names, order and counties with a row more
module _ (b : Book) (x y : ℕ) where
  pub names_more : length (admitted b x y).names ≡ suc (length b.names)
  unfolding admitted
  names_more = length-append b.names (x ∷ []) ∙ omega arith

  pub old-name : (i : ℕ) → Within (length b.names) i → name_in (admitted b x y) i ≡ name_in b i
  unfolding admitted name_in
  old-name i w = get_or-append b.names (x ∷ []) 0 (i - 1) (omega arith)

  pub new-name : name_in (admitted b x y) (suc (length b.names)) ≡ x
  unfolding admitted name_in
  new-name = let z : suc (length b.names) - 1 ≡ length b.names + 0 = omega arith in ap (λ (k : ℕ). get_or (b.names ++ (x ∷ [])) k 0) z ∙ get_or-append-add b.names (x ∷ []) 0 0

  -- the new row is put into the order, which is otherwise the old one
  order-more : (frame (admitted b x y)).order ≡ inserted (name_in (admitted b x y)) (name_in (admitted b x y) (suc (length b.names))) (suc (length b.names)) (frame b).order
  unfolding frame by_name
  order-more =
      ap (by_name (name_in (admitted b x y))) names_more
      ∙ ap (inserted (name_in (admitted b x y)) (name_in (admitted b x y) (suc (length b.names))) (suc (length b.names))) (by_name-same (name_in b) (name_in (admitted b x y)) (length b.names) old-name)

  pub places-more : length (admitted b x y).counties ≡ suc (length b.counties)
  unfolding admitted
  places-more = length-append b.counties _ ∙ omega arith

  pub old-county : (i : ℕ) → Within (length b.counties) i → county_in (admitted b x y) i ≡ county_in b i
  unfolding county_in county_at admitted
  old-county i w =
      rw (le-leb 1 i w.0, le-leb i (length b.counties) w.1, le-leb i (length (admitted b x y).counties) (omega (arith, places-more)))
      (get_or-append b.counties _ 0 (i - 1) (omega arith))

  pub new-county : county_in (admitted b x y) (suc (length b.counties)) ≡ y
  unfolding county_in county_at admitted
  new-county =
      let z : suc (length b.counties) - 1 ≡ length b.counties + 0 = omega arith in
      rw (z, le-leb 1 (suc (length b.counties)) (omega arith), le-leb (suc (length b.counties)) (length (admitted b x y).counties) (omega (arith, places-more)))
      (get_or-append-add b.counties _ 0 0)

  -- quorums of lists without the new row stay
  quorum-kept : length b.counties ≡ length b.names → (v : Laid) → v.members < 2 ^ length b.names → (kind : Kind) (s : ℕ → Bool)
      → list_quorum kind (frame (admitted b x y)) v s ≡ list_quorum kind (frame b) v s
  unfolding frame
  quorum-kept placed v small kind s =
      ap (λ (o : List ℕ). list_quorum kind (record { order = o; county = county_in (admitted b x y) }) v s) order-more
      ∙ quorum-more (name_in (admitted b x y)) (name_in (admitted b x y) (suc (length b.names))) (suc (length b.names)) (frame b).order v out
      (county_in b) (county_in (admitted b x y)) (λ i m. old-county i (rw placed (has_within (length b.names) v.members i small m))) kind s
    where
      out : has v.members (suc (length b.names)) ≡ false
      out = same_test _ false (λ m. absurd (omega (arith, has_within (length b.names) v.members (suc (length b.names)) small m))) (λ z. absurd (clash z))

-- ---- the rows after a joining: the old ones stay, the new one says nothing yet
module _ (n : ℕ) (p : Poll) (c : ℕ → List ℕ) (b : Book) (e : ℕ) (I : Inv n p c b e) (p' : Poll) (c' : ℕ → List ℕ) (x y : ℕ) where
  pub record Grown : Type 0 where
    pub epoch : (i : ℕ) → Within n i → p'.epoch i ≡ p.epoch i
    pub list : (i : ℕ) → Within n i → p'.list i ≡ p.list i
    pub old : (i : ℕ) → Within n i → Stays p c p' c' i
    pub new-epoch : p'.epoch (suc n) ≡ 0
    pub new-list : p'.list (suc n) ≡ no_list
    pub new : Is p' c' (suc n) false 0 0 (zeros (length b.file))

  module _ (g : Grown) (here : n ≡ length b.names) (placed : length b.counties ≡ length b.names) (small : (i : ℕ) → Within n i → (p.list i).members < 2 ^ n) (blank : b.writes ≡ 0 → b.file ≡ zeros (length b.file)) where
    kept : (v : Laid) → v.members < 2 ^ n → (kind : Kind) (s : ℕ → Bool) → list_quorum kind (frame (admitted b x y)) v s ≡ list_quorum kind (frame b) v s
    kept v l = quorum-kept b x y placed v (rw (← here) l)

    none : (s : ℕ → Bool) → list_quorum Read (frame (admitted b x y)) no_list s ≡ true → ⊥
    unfolding is_empty no_list
    none s h = let w = inhabited (frame (admitted b x y)) no_list Read s h in clash (sym (has-list no_list w.0 w.1))

    -- what holds of the new row and of the old ones holds of each
    at : {A : ℕ → Type 0} → A (suc n) → ((i : ℕ) → Within n i → A i) → (i : ℕ) → Within (suc n) i → A i
    at {A} new old i v = ⊎_elim (λ q. subst A (sym q) new) (old i) (last n i v)

    own_new : (i : ℕ) → Within (suc n) i → (admitted b x y).own i ≡ p'.list i
    unfolding admitted
    own_new = rw (← here) (at {A = λ i. cond (eqb i (suc n)) no_list (b.own i) ≡ p'.list i}
        (rw (eq-eqb (suc n) (suc n) refl) (sym g.new-list))
        (λ i w. rw (ne_eqb i (suc n) (λ z. omega arith)) (I.epochs.owned i w ∙ sym (g.list i w))))

    more-epochs : Epochs (suc n) (frame (admitted b x y)) p'.epoch p'.list b.in_force (admitted b x y).own e
    unfolding is_empty no_list
    more-epochs = record {
      below = at {A = λ i. p'.epoch i ≤ e} (rw g.new-epoch (omega arith)) (λ i w. rw (g.epoch i w) (I.epochs.below i w));
      inside = at {A = λ i. has b.in_force.members i ≡ true → (p'.epoch i ≡ e) × (p'.list i ≡ b.in_force)}
          (λ m. absurd (omega (arith, has_within n b.in_force.members (suc n) I.epochs.bound m)))
          (λ i w. rw (g.epoch i w, g.list i w) (I.epochs.inside i w));
      forced = at {A = λ i. is_empty (p'.list i) ≡ false → p'.epoch i ≡ e → p'.list i ≡ b.in_force}
          (λ l q. absurd (clash (sym (rw g.new-list at l))))
          (λ i w. rw (g.epoch i w, g.list i w) (I.epochs.forced i w));
      bare = at {A = λ i. is_empty (p'.list i) ≡ true → p'.epoch i ≡ 0} (λ l. g.new-epoch) (λ i w. rw (g.epoch i w, g.list i w) (I.epochs.bare i w));
      owned = own_new;
      bound = lt_of_lt_of_le I.epochs.bound (pow_mono (omega arith));
      dead = at {A = λ i. p'.epoch i < e → (s : ℕ → Bool) → ((j : ℕ) → Within (suc n) j → s j ≡ true → p'.epoch j ≤ p'.epoch i) → list_quorum Read (frame (admitted b x y)) (p'.list i) s ≡ true → ⊥}
          (λ l s h q. none s (rw g.new-list at q))
          (λ i w l s h q. I.epochs.dead i w (rw (g.epoch i w) at l) s
          (λ j v m. subst₂ (λ (y z : ℕ). y ≤ z) (g.epoch j v) (g.epoch i w) (h j (omega arith) m))
          (sym (kept (p.list i) (small i w) Read s) ∙ (rw (g.list i w) at q)));
    }

    more-versions : (i : ℕ) → Within (suc n) i → Versions (p'.stale i) (p'.version i) (p'.desired i) (c' i) b.writes b.file ((admitted b x y).has_write i)
    unfolding admitted
    more-versions = at {A = λ i. Versions (p'.stale i) (p'.version i) (p'.desired i) (c' i) b.writes b.file (λ k. b.has_write i k && not (eqb i (suc (length b.names))))}
        (versions-of g.new (record {
          past = omega arith;
          wants = λ z. absurd (clash z);
          same = λ z. sym (blank (sym z));
          kept = λ k h. rw (← here, eq-eqb (suc n) (suc n) refl, and-false (b.has_write (suc n) k)) (sym (lt-leb k 0 (omega arith)));
        }))
        (λ i w. let v = I.versions i w in versions-of (g.old i w) (record {
          past = v.past;
          wants = v.wants;
          same = v.same;
          kept = λ k h. rw (← here, ne_eqb i (suc n) (λ z. omega arith), and-true (b.has_write i k)) (v.kept k h);
        }))

    more-live : (s : ℕ → Bool) → list_quorum Read (frame (admitted b x y)) b.in_force s ≡ true → (i : ℕ) × Within (suc n) i × (s i ≡ true) × (aim p' i ≡ b.writes)
    unfolding aim
    more-live s h =
        let r = I.live s (sym (kept b.in_force I.epochs.bound Read s) ∙ h) in
        (r.0, omega arith, r.2, aim-of (g.old r.0 r.1) ∙ r.3)

    pub keep_join : Inv (suc n) p' c' (admitted b x y) e
    unfolding admitted
    keep_join = record { epochs = more-epochs; versions = more-versions; live = more-live }
