use mathlib.Core.Path.{◌≡◌, refl}
use mathlib.Core.List.{List, [], ◌∷◌}
use Prim.Native.Nat.{ℕ}
use native.Mathlib.Omega.{arith}
use lib.ListN.{length, set}
use borrow.Author.Tests.{eq-eqb, ne_eqb}
use Rattle.protocol.specs.Calls.{noted}
use Rattle.questions.proofs.note.Goals as goal

-- a list of one byte, written
one_byte : (xs : List ℕ) (n : ℕ) → length xs ≡ 1 → set xs 0 n ≡ n ∷ []
one_byte [] n e = absurd (omega arith)
one_byte (x ∷ []) n e = refl
one_byte (x ∷ y ∷ l) n e = absurd (omega arith)

pub returns-then-bytes-eq1 : goal.returns-then-bytes-eq1
unfolding noted
returns-then-bytes-eq1 c = let a = c.args in rw (eq-eqb (length a.bytes.now) 1 c.if-bytes-eq1.true) (one_byte a.bytes.now a.called c.if-bytes-eq1.true)

pub returns-else-bytes-eq1 : goal.returns-else-bytes-eq1
unfolding noted
returns-else-bytes-eq1 c = rw (ne_eqb (length c.args.bytes.now) 1 c.if-bytes-eq1.false)
