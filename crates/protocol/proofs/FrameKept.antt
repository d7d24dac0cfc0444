-- No call but a founding and a joining alters the frame of the table.
use mathlib.Core.Path.{◌≡◌, refl, sym, ◌∙◌, subst}
use mathlib.Core.Bool.{Bool, true, false}
use mathlib.Core.List.{List}
use Prim.Native.Nat.{ℕ, zero, suc}
use native.Mathlib.Omega.{arith}
use lib.Dec.{eqb, ltb}
use borrow.Author.Tests.{ltb-true}
use Rattle.sets.specs.Sets.{has}
use Rattle.table.specs.WellFormed.{limit}
use Rattle.asking.specs.Asking.{first_no}
use Rattle.protocol.specs.Polls.{highest_epoch, in_force}
use Rattle.protocol.specs.Calls.{Call, read, write, send, check, Outcome, answers, questions, done, outcome, carry, founding, join}
use Rattle.protocol.specs.Claims.{Answering, by_read, by_write, by_send, by_check}
use Rattle.protocol.proofs.FrameLaws.{SameFrame}
use Rattle.protocol.proofs.QuestionLaws.{CheckYes, refusal_is, when-done, when-refused, write-yes, send-yes, check-yes}
use Rattle.protocol.proofs.DoneLaws.{writing, write_table, write-leaves, send_table, send-leaves, check_list, checking, check_table, check-leaves}

pub frame-itself : (t : List ℕ) → SameFrame t t
frame-itself t = record { like = record { long = refl; header = λ a n h. refl }; names = refl; links = refl; counties = refl }

done-frame : (t : List ℕ) (k : Call) (r : ℕ) → Answering k r → first_no (questions t k) ≡ 0 → SameFrame t (done t k).table
unfolding done write_table writing send_table check_table checking check_list
done-frame t (read a) _ by_read h = frame-itself t
done-frame t (write a) _ by_write h = (write-leaves t a (write-yes t a h)).frame
done-frame t (send a) _ by_send h = (send-leaves t a (send-yes t a h)).frame
done-frame t (check a) _ by_check h = go (eqb a.r (in_force (answers t 1 a.r) (has a.r)).members) refl
  where
    y : CheckYes t a
    y = check-yes t a h

    go : (b : Bool) → eqb a.r (in_force (answers t 1 a.r) (has a.r)).members ≡ b → SameFrame t (done t (check a)).table
    go true q = rw q (frame-itself t)
    go false q =
        let room : ltb (highest_epoch (answers t 1 a.r) (has a.r)) limit ≡ true = rw q at y.room in
        rw q (check-leaves t a y (ltb-true _ _ room)).frame
done-frame t (founding _) r x3 h = elim x3 [ ]
done-frame t (join _) r x4 h = elim x4 [ ]
done-frame t (carry _) r x5 h = elim x5 [ ]

pub call-frame : (t : List ℕ) (k : Call) (r : ℕ) → Answering k r → SameFrame t (outcome t k).table
call-frame t k r a = go (outcome t k).refusal refl
  where
    go : (n : ℕ) → (outcome t k).refusal ≡ n → SameFrame t (outcome t k).table
    go zero q = subst (λ (o : Outcome). SameFrame t o.table) (sym (when-done t k q)) (done-frame t k r a (sym (refusal_is t k) ∙ q))
    go (suc n) q = rw (when-refused t k (λ z. omega arith)).1 (frame-itself t)
