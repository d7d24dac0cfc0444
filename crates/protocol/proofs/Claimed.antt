-- The claims of specs/Claims.antt, proved.
use mathlib.Core.Path.{◌≡◌, refl, sym, ◌∙◌, subst}
use mathlib.Core.Bool.{Bool, true, false, cond}
use mathlib.Core.List.{List, [], ◌∷◌}
use Prim.Native.Nat.{ℕ, zero, suc, ◌+◌, ◌*◌, ◌^◌, ◌≤◌, ◌<◌}
use native.Mathlib.Omega.{arith}
use lib.Dec.{eqb, ltb}
use lib.ListN.{length, replicate, length-replicate}
use borrow.Author.Tests.{eqb-true, eq-eqb, ltb-true}
use Rattle.sets.specs.Upto.{every}
use Rattle.sets.specs.Sets.{has}
use Rattle.bools.proofs.BoolLaws.{clash}
use Rattle.quorums.specs.declared.Kind.TheVariants.{Read, Write}
use Rattle.octets.specs.Bytes.{part, zeros}
use Rattle.octets.proofs.ByteLaws.{length-zeros}
use Rattle.fields.specs.Layout.{stride, used_of, name_of, version_of, rows_end}
use Rattle.table.specs.Chain.{frame_of}
use Rattle.table.specs.WellFormed.{between, is_county, limit, well_formed}
use Rattle.counties.specs.Counties.{county_at}
use Rattle.table.proofs.FormLaws.{formed, well-formed-of, header-facts}
use Rattle.table.proofs.WellFormedLaws.{header, own-sized}
use Rattle.protocol.specs.Polls.{highest_epoch, in_force}
use Rattle.protocol.specs.Calls
use Rattle.asking.specs.Asking.{first_no}
use Rattle.asking.proofs.AskingLaws.{result-refusal, result_value}
use Rattle.protocol.specs.Calls.{Founding, Call, founding, join, read, write, send, check, carry, questions, called_after, done, outcome, answers, work_set}
use Rattle.sheet.specs.Sheet.{by_club}
use Rattle.protocol.specs.Claims
use Rattle.joining.proofs.FrameLaws.{joined-alters}
use Rattle.joining.proofs.RowLaws.{more-formed}
use Rattle.protocol.proofs.PollLaws.{worked-in}
use Rattle.protocol.proofs.QuestionLaws.{refusal_is, when-done, when-refused, join-yes, read-yes, write-yes, send-yes, CheckYes, check-yes, carry-yes}
use Rattle.protocol.proofs.CopyLaws.{Leaves}
use Rattle.protocol.proofs.DoneLaws.{version-small, epoch-small, writing, write_table, write-leaves, send_table, send-leaves, check_list, checking, check_table, check-leaves}
use Rattle.protocol.proofs.KeepLaws.{write-formed, send-formed}
use Rattle.protocol.proofs.FoundedLaws.{founds-of, founded-used, founded-formed}

-- ---- the questions' numbers, in their order
pub put-in-order : Claims.PutInOrder
unfolding Claims.PutInOrder by_club Claims.numbers_put questions Calls.by_coordinator
put-in-order t (founding a) = refl
put-in-order t (join a) = refl
put-in-order t (read a) = refl
put-in-order t (write a) = refl
put-in-order t (send a) = refl
put-in-order t (check a) = refl
put-in-order t (carry a) = refl

-- ---- the result tells refusal and value
small-done : (t : List ℕ) (k : Call) → first_no (questions t k) ≡ 0 → (done t k).value ≤ limit
unfolding done limit work_set version_of
small-done t (founding a) h = let f = founds-of t a h in omega (arith, f.room, f.most)
small-done t (join a) h = let y = join-yes t a h in omega (arith, y.room, (header-facts t (formed t y.formed).header).capacity)
small-done t (read a) h =
    version-small t a.file a.c a.r (read-yes t a h).group (read-yes t a h).first (work_set Read t a.file a.c a.r) (worked-in Read (frame_of t) (answers t a.file a.r) a.c (name_of t a.c) (has a.r))
small-done t (write a) h = omega (arith, (write-yes t a h).room)
small-done t (send a) h = let y = send-yes t a h in ((formed t y.formed).copies a.f a.file y.from-used y.group).small-version
small-done t (check a) h = go (eqb a.r (in_force (answers t 1 a.r) (has a.r)).members) refl
  where
    y : CheckYes t a
    y = check-yes t a h

    go : (b : Bool) → eqb a.r (in_force (answers t 1 a.r) (has a.r)).members ≡ b → cond b (highest_epoch (answers t 1 a.r) (has a.r)) (highest_epoch (answers t 1 a.r) (has a.r) + 1) ≤ limit
    go true q = epoch-small t 1 a.c a.r y.first (has a.r) (λ i m. m)
    go false q = let room : ltb (highest_epoch (answers t 1 a.r) (has a.r)) limit ≡ true = rw q at y.room in omega (arith, ltb-true)
small-done t (carry a) h = let y = header (own-sized (carry-yes t a h).own).header in omega (arith, y.used, y.capacity)

pub result-tells : Claims.ResultTells
unfolding Claims.ResultTells Calls.result_of limit
result-tells t k = let s = go (outcome t k).refusal refl in record { small = s; refusal = result-refusal (outcome t k).refusal _ s; value = result_value (outcome t k).refusal _ s }
  where
    go : (x : ℕ) → (outcome t k).refusal ≡ x → (outcome t k).value < 2 ^ 32
    go zero q = let z = small-done t k (sym (refusal_is t k) ∙ q) in rw (when-done t k q) (omega arith)
    go (suc x) q = rw (when-refused t k (λ z. omega arith)).0 (omega arith)

-- ---- demand 1: a refusal
pub refusal-alters-nothing : Claims.RefusalAltersNothing
unfolding Claims.RefusalAltersNothing
refusal-alters-nothing t k d = let w = when-refused t k d in record { value = w.0; table = w.1; buffer = w.2; sheet = w.3 }

pub buffer-stays : Claims.BufferStays
unfolding Claims.BufferStays Calls.lent
buffer-stays t a d = (when-refused t (read a) d).2

-- ---- a founding's value
pub founding-counts : Claims.FoundingCounts
unfolding Claims.FoundingCounts done
founding-counts t a h = rw (when-done t (founding a) h) (sym (founded-used a (founds-of t a (sym (refusal_is t (founding a)) ∙ h))))

-- ---- demand 1: a done call alters only rows that answered
pub only_none : (r : ℕ) (t : List ℕ) → Claims.OnlyRowsOf r t t
only_none r t = record { bytes = refl; header = refl; rows = λ i w m. refl; rest = refl }

only-leaves : {t u : List ℕ} {s : ℕ → Bool} (r : ℕ) → ((i : ℕ) → s i ≡ true → has r i ≡ true) → Leaves t u s → Claims.OnlyRowsOf r t u
unfolding part
only-leaves {t} {u} {s} r sub l = record {
  bytes = l.change.like.long;
  header = l.change.like.header 0 16 (omega arith);
  rows = λ i w m. l.out i w (outside i m (s i) refl);
  rest = l.change.tail (rows_end t (used_of t)) (omega arith);
}
  where
    outside : (i : ℕ) → has r i ≡ false → (b : Bool) → s i ≡ b → s i ≡ false
    outside i m true e = absurd (clash (sym m ∙ sub i e))
    outside i m false e = e

only-done : (t : List ℕ) (k : Call) (r : ℕ) → Claims.Answering k r → first_no (questions t k) ≡ 0 → Claims.OnlyRowsOf r t (done t k).table
unfolding done work_set write_table writing send_table check_table checking check_list
only-done t (read a) r Claims.by_read h = only_none a.r t
only-done t (write a) r Claims.by_write h =
    let y = write-yes t a h in only-leaves a.r (λ i m. worked-in Write (frame_of t) (answers t a.file a.r) a.c (name_of t a.c) (has a.r) i m) (write-leaves t a y)
only-done t (send a) r Claims.by_send h =
    let y = send-yes t a h in only-leaves a.r (λ i m. subst (λ (x : ℕ). has a.r x ≡ true) (eqb-true a.t i m) y.to-answered) (send-leaves t a y)
only-done t (check a) r Claims.by_check h = go (eqb a.r (in_force (answers t 1 a.r) (has a.r)).members) refl
  where
    y : CheckYes t a
    y = check-yes t a h

    go : (b : Bool) → eqb a.r (in_force (answers t 1 a.r) (has a.r)).members ≡ b → Claims.OnlyRowsOf a.r t (done t (check a)).table
    go true q = rw q (only_none a.r t)
    go false q = rw q (only-leaves a.r (λ i m. m) (check-leaves t a y (ltb-true _ _ (rw q at y.room))))
only-done t (founding _) r x3 h = elim x3 [ ]
only-done t (join _) r x4 h = elim x4 [ ]
only-done t (carry _) r x5 h = elim x5 [ ]

pub alters-only-answered : Claims.AltersOnlyAnswered
unfolding Claims.AltersOnlyAnswered
alters-only-answered t k r a h = rw (when-done t k h) (only-done t k r a (sym (refusal_is t k) ∙ h))

-- ---- every call but a check keeps a well-formed table well formed
formed-done : (t : List ℕ) (k : Call) → Claims.NoCheck k → well_formed t ≡ true → first_no (questions t k) ≡ 0 → well_formed (done t k).table ≡ true
unfolding done write_table writing send_table
formed-done t (founding a) Claims.a_founding w h =
    well-formed-of _ (founded-formed a (founds-of t a h))
formed-done t (join a) Claims.a_join w h = let y = join-yes t a h in well-formed-of _ (more-formed t _ a.name a.county w y.room (joined-alters t w a.name y.room a.county) y.named y.placed y.free)
formed-done t (read a) Claims.a_read w h = w
formed-done t (write a) Claims.a_write w h = well-formed-of _ (write-formed t a (write-yes t a h))
formed-done t (send a) Claims.a_send w h = well-formed-of _ (send-formed t a (send-yes t a h))
formed-done t (carry a) Claims.a_carry w h = w
formed-done t (check _) x4 w h = elim x4 [ ]

pub stays-well-formed : Claims.StaysWellFormed
unfolding Claims.StaysWellFormed
stays-well-formed t k n w = go (outcome t k).refusal refl
  where
    go : (x : ℕ) → (outcome t k).refusal ≡ x → well_formed (outcome t k).table ≡ true
    go zero q = rw (when-done t k q) (formed-done t k n w (sym (refusal_is t k) ∙ q))
    go (suc x) q = rw (when-refused t k (λ z. omega arith)).1 w

-- ---- a founding takes nothing from the table but its length
pub founds-on-anything : Claims.FoundsOnAnything
unfolding Claims.FoundsOnAnything outcome questions done called_after
founds-on-anything t u a e h =
    let q : first_no (questions t (founding a)) ≡ first_no (questions u (founding a)) = rw e in
    let z : first_no (questions t (founding a)) ≡ 0 = sym (refusal_is t (founding a)) ∙ h in
    when-done t (founding a) h ∙ sym (when-done u (founding a) (refusal_is u (founding a) ∙ sym q ∙ z))

-- met with: one machine, founded on a table of ones and on a table of zeros
abbrev one_machine : Founding
one_machine = record { capacity = 1; file_length = 1; names = 10 ∷ 0 ∷ []; choice = 0; files = 1; counties = 1 ∷ [] }

abbrev ones : List ℕ
ones = replicate (16 + stride 1 1) 1

pub ones-leave-no-trace : outcome ones (founding one_machine) ≡ outcome (zeros (16 + stride 1 1)) (founding one_machine)
unfolding Claims.FoundsOnAnything questions first_no Calls.names_in Calls.names_rising between is_county county_at every
ones-leave-no-trace =
    let long : length ones ≡ 16 + stride 1 1 = length-replicate {A = ℕ} (16 + stride 1 1) 1 in
    founds-on-anything ones (zeros (16 + stride 1 1)) one_machine (long ∙ sym (length-zeros (16 + stride 1 1)))
    (refusal_is ones (founding one_machine) ∙ rw (eq-eqb (length ones) (16 + 1 * stride 1 1) (long ∙ omega arith)))
