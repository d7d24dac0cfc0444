-- What a round leaves alone, and what has no part in it.
use mathlib.Core.Path.{◌≡◌, refl, sym, ◌∙◌, ap}
use mathlib.Core.Bool.{Bool, true, false}
use mathlib.Core.List.{List, [], ◌∷◌}
use mathlib.Core.Logic.{◌≢◌}
use Prim.Native.Nat.{ℕ, zero, suc, ◌+◌}
use native.Mathlib.Omega.{arith}
use native.Mathlib.Decide.{ℕ_discrete}
use lib.ListN.{drop}
use borrow.Author.Tests.{eq-eqb, ne_eqb}
use Rattle.sets.specs.Upto.{Within}
use Rattle.sets.specs.Sets.{has}
use Rattle.quorums.specs.Starred.{Each}
use Rattle.octets.specs.Bytes.{number, part}
use Rattle.fields.specs.Layout.{get, name, link, county, used_of, name_of, link_of, county_of, rows_end, row_bytes, copy_bytes}
use Rattle.table.specs.WellFormed.{well_formed}
use Rattle.table.proofs.TableLaws.{Like, like-end}
use Rattle.table.proofs.CountyLaws.{county-at}
use Rattle.protocol.specs.Calls.{write}
use Rattle.protocol.specs.Claims.{OnlyRowsOf, by_write, a_write, AltersOnlyAnswered, StaysWellFormed, EqualIn, SameFor, UnansweredHaveNoPart, writes_file, OtherFiles, OtherFilesStay, EqualInFile, SameInFile, OtherFilesHaveNoPart}
use Rattle.protocol.proofs.QuestionLaws.{when-refused}
use Rattle.protocol.proofs.Unanswered.{first_part, used-by, unanswered-have-no-part}
use Rattle.protocol.proofs.OtherFiles.{other-files-stay, other-files-have-no-part}
use Rattle.protocol.proofs.Claimed.{only_none, alters-only-answered, stays-well-formed}
use Rattle.ordering.specs.declared.Order.{Order}
use Rattle.ordering.specs.Rounds.{writing, Round, round_from, empty_questions, none_done, round_of}
use Rattle.ordering.specs.Claims.{RoundAltersOnly, RoundStaysFormed, FilesStay, RoundFilesStay, SameRound, UnansweredInRound, EqualInFiles, SameInFiles, OtherFilesInRound}
use Rattle.ordering.proofs.RoundLaws.{made, by_order, round-holds}

-- ---- u is t but for rows of R: the same header, and so the same used rows
module _ {r : ℕ} {t u : List ℕ} (only : OnlyRowsOf r t u) where
  like : Like t u
  unfolding part
  like = record { long = only.bytes; header = λ a n h. sym (first_part 16 a n u h) ∙ ap (part a n) only.header ∙ first_part 16 a n t h }

  used-kept : used_of u ≡ used_of t
  used-kept = used-by t u (sym only.header)

  -- and v is u but for rows of R
  only-more : {v : List ℕ} → OnlyRowsOf r u v → OnlyRowsOf r t v
  only-more {v} more = record {
    bytes = more.bytes ∙ only.bytes;
    header = more.header ∙ only.header;
    rows = λ i w m. more.rows i (rw used-kept w) m ∙ only.rows i w m;
    rest = ap (λ (k : ℕ). drop k v) (sym end) ∙ more.rest ∙ ap (λ (k : ℕ). drop k u) end ∙ only.rest;
  }
    where
      end : rows_end u (used_of u) ≡ rows_end t (used_of t)
      end = ap (rows_end u) used-kept ∙ like-end like (used_of t)

-- an order's write, done or refused
made-only : (t s : List ℕ) (r : ℕ) (o : Order) → OnlyRowsOf r t (made t s r o).table
unfolding writing AltersOnlyAnswered
made-only t s r o = go (ℕ_discrete (made t s r o).refusal 0)
  where
    go : Dec ((made t s r o).refusal ≡ 0) → OnlyRowsOf r t (made t s r o).table
    go (yes e) = alters-only-answered t (write (writing r s o)) r by_write e
    go (no d) = rw (when-refused t (write (writing r s o)) d).1 (only_none r t)

made-formed : (t s : List ℕ) (r : ℕ) (o : Order) → well_formed t ≡ true → well_formed (made t s r o).table ≡ true
unfolding StaysWellFormed
made-formed t s r o e = stays-well-formed t (write (writing r s o)) a_write e

pub round-alters-only : RoundAltersOnly
unfolding RoundAltersOnly
round-alters-only t s r os = round-holds (λ u v. OnlyRowsOf r t u) r (λ u v o h. only-more h (made-only u v r o)) t s os (only_none r t)

pub round-stays-formed : RoundStaysFormed
unfolding RoundStaysFormed
round-stays-formed t s r os h = round-holds (λ u v. well_formed u ≡ true) r (λ u v o e. made-formed u v r o e) t s os h

-- ---- other files
others : (t s : List ℕ) (r : ℕ) (o : Order) → OtherFiles o.file t (made t s r o).table
unfolding writing OtherFilesStay
others t s r o = other-files-stay t (write (writing r s o)) o.file writes_file

pub round-files-stay : RoundFilesStay
unfolding RoundFilesStay round_of none_done Each
round-files-stay t s r [] = record { heads = λ i w. refl; copies = λ i q w n. refl }
round-files-stay t s r (o ∷ os) =
    by_order r (λ t s n os x. FilesStay os t x.table)
    (λ t s n. record { heads = λ i w. refl; copies = λ i q w m. refl })
    (λ t s n o os e. record { heads = λ i w. refl; copies = λ i q w m. refl })
    (λ t s n o os x e z f.
    let k = used-kept (made-only t s r o) in
    let h = others t s r o in
    record {
      heads = λ i w. f.heads i (rw k w) ∙ h.heads i w;
      copies = λ i q w m. f.copies i q (rw k w) m.1 ∙ h.copies i q w (λ p. m.0 (sym p));
    })
    (λ t s n o os e z.
    let h = others t s r o in
    record { heads = h.heads; copies = λ i q w m. h.copies i q w (λ p. m.0 (sym p)) })
    t s 0 (o ∷ os)

-- ---- rows that did not answer
-- tables equal in R stay so where only rows of R are altered, and alike
module _ {r : ℕ} {t u t' u' : List ℕ} (E : EqualIn r t u) (a : OnlyRowsOf r t t') (b : OnlyRowsOf r u u') (formed : well_formed t' ≡ true) (formed-too : well_formed u' ≡ true)
    (same : (i : ℕ) → has r i ≡ true → row_bytes t' i ≡ row_bytes u' i) where
  used-too : used_of u ≡ used_of t
  used-too = used-by t u E.header

  -- what is read off rows and is the same before is the same after
  read_same : (f : List ℕ → ℕ) → ((i : ℕ) → Within (used_of t) i → f (row_bytes t i) ≡ f (row_bytes u i)) → (i : ℕ) → Within (used_of t) i → f (row_bytes t' i) ≡ f (row_bytes u' i)
  read_same f h i w = go (has r i) refl
    where
      go : (x : Bool) → has r i ≡ x → f (row_bytes t' i) ≡ f (row_bytes u' i)
      go true m = ap f (same i m)
      go false m = ap f (a.rows i w m) ∙ h i w ∙ sym (ap f (b.rows i (rw used-too w) m))

  equal-after : EqualIn r t' u'
  unfolding name_of link_of
  equal-after = record {
    formed = formed;
    formed-too = formed-too;
    header = a.header ∙ E.header ∙ sym b.header;
    names = λ i w. read_same (get name) E.names i (rw (sym (used-kept a)) w);
    links = λ i w. read_same (get link) E.links i (rw (sym (used-kept a)) w);
    counties = λ i w.
        let v : Within (used_of t) i = rw (sym (used-kept a)) w in
        let y : Within (used_of u') i = rw (used-kept b, used-too) v in
        county-at t' i w ∙ read_same (get county) (λ j z. sym (county-at t j z) ∙ E.counties j z ∙ county-at u j (rw used-too z)) i v ∙ sym (county-at u' i y);
    rows = same;
  }

-- an order's write on each
made-same : (t u s : List ℕ) (r : ℕ) (o : Order) → EqualIn r t u → SameFor r (made t s r o) (made u s r o)
unfolding writing UnansweredHaveNoPart
made-same t u s r o E = unanswered-have-no-part t u (write (writing r s o)) r by_write E

made-equal : (t u s : List ℕ) (r : ℕ) (o : Order) → EqualIn r t u → EqualIn r (made t s r o).table (made u s r o).table
made-equal t u s r o E = equal-after E (made-only t s r o) (made-only u s r o) (made-formed t s r o E.formed) (made-formed u s r o E.formed-too) (made-same t u s r o E).rows

pub unanswered-in-round : UnansweredInRound
unfolding UnansweredInRound round_of none_done empty_questions round_from
unanswered-in-round t u s r [] E = record {
  refusal = rw (E.formed, E.formed-too, used-by t u E.header);
  value = refl;
  sheet = refl;
  rows = E.rows;
}
unanswered-in-round t u s r (o ∷ os) E =
    by_order r (λ t s n os x. (u : List ℕ) → EqualIn r t u → SameRound r x (round_from u s r n os))
    (λ t s n u E. record { refusal = refl; value = refl; sheet = refl; rows = E.rows })
    (λ t s n o os e u E. rw (eq-eqb n 64 e) (record { refusal = refl; value = refl; sheet = refl; rows = E.rows }))
    (λ t s n o os x e z i u E.
    let S = made-same t u s r o E in
    rw (ne_eqb n 64 e, sym S.refusal ∙ z, ← S.sheet) (i (made u s r o).table (made-equal t u s r o E)))
    (λ t s n o os e z u E.
    let S = made-same t u s r o E in
    rw (ne_eqb n 64 e, ← S.refusal, ne_eqb (made t s r o).refusal 0 z) (record { refusal = refl; value = refl; sheet = S.sheet; rows = S.rows }))
    t s 0 (o ∷ os) u E

-- ---- files that no order names
module _ (p : ℕ → Bool) (t u : List ℕ) (E : EqualInFiles p t u) (s : List ℕ) (r : ℕ) (o : Order) (named : p o.file ≡ true) where
  in-file : EqualInFile o.file t u
  in-file = record { formed = E.formed; formed-too = E.formed-too; header = E.header; heads = E.heads; copies = λ i w. E.copies i o.file w named }

  -- an order's write on each
  same_in : SameInFile o.file t (made t s r o) (made u s r o)
  unfolding writing OtherFilesHaveNoPart
  same_in = other-files-have-no-part t u (write (writing r s o)) o.file writes_file in-file

  copies-in : (i q : ℕ) → Within (used_of t) i → p q ≡ true → copy_bytes (made t s r o).table q i ≡ copy_bytes (made u s r o).table q i
  copies-in i q w m = go (ℕ_discrete q o.file)
    where
      go : Dec (q ≡ o.file) → copy_bytes (made t s r o).table q i ≡ copy_bytes (made u s r o).table q i
      go (yes e) = rw e (same_in.copies i w)
      go (no d) = (others t s r o).copies i q w d ∙ E.copies i q w m ∙ sym ((others u s r o).copies i q (rw (used-by t u E.header) w) d)

  made_in : EqualInFiles p (made t s r o).table (made u s r o).table
  made_in =
      let a = made-only t s r o in
      let b = made-only u s r o in
      let k = used-kept a in
      record {
        formed = made-formed t s r o E.formed;
        formed-too = made-formed u s r o E.formed-too;
        header = a.header ∙ E.header ∙ sym b.header;
        heads = λ i w.
            let v : Within (used_of t) i = rw (sym k) w in
            (others t s r o).heads i v ∙ E.heads i v ∙ sym ((others u s r o).heads i (rw (used-by t u E.header) v));
        copies = λ i q w m. copies-in i q (rw (sym k) w) m;
      }

pub other-files-in-round : OtherFilesInRound
unfolding OtherFilesInRound round_of none_done empty_questions round_from Each
other-files-in-round p t u s r [] n E = record {
  refusal = rw (E.formed, E.formed-too, used-by t u E.header);
  value = refl;
  sheet = refl;
  copies = E.copies;
}
other-files-in-round p t u s r (o ∷ os) n E =
    by_order r (λ t s n os x. (u : List ℕ) → Each (λ o. p o.file ≡ true) os → EqualInFiles p t u → SameInFiles p t x (round_from u s r n os))
    (λ t s n u m E. record { refusal = refl; value = refl; sheet = refl; copies = E.copies })
    (λ t s n o os e u m E. rw (eq-eqb n 64 e) (record { refusal = refl; value = refl; sheet = refl; copies = E.copies }))
    (λ t s n o os x e z i u m E.
    let S = same_in p t u E s r o m.0 in
    let k = used-kept (made-only t s r o) in
    rw (ne_eqb n 64 e, sym S.refusal ∙ z, ← S.sheet)
    (let f = i (made u s r o).table m.1 (made_in p t u E s r o m.0) in
    record { refusal = f.refusal; value = f.value; sheet = f.sheet; copies = λ j q w l. f.copies j q (rw k w) l }))
    (λ t s n o os e z u m E.
    let S = same_in p t u E s r o m.0 in
    rw (ne_eqb n 64 e, ← S.refusal, ne_eqb (made t s r o).refusal 0 z) (record { refusal = refl; value = refl; sheet = S.sheet; copies = copies-in p t u E s r o m.0 }))
    t s 0 (o ∷ os) u n E
