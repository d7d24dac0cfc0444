use native.Mathlib.Omega.{arith}
use borrow.Author.Tests.{lt-ltb, le-ltb, eq-eqb, ne_eqb}
use Rattle.places.proofs.better.Goals as goal

pub returns-then-b-v : goal.returns-then-b-v
returns-then-b-v c = let a = c.args in record { value = omega arith; rows = rw (lt-ltb a.b.value a.v c.if-b-v.true) }

pub returns-then-v-b : goal.returns-then-v-b
returns-then-v-b c =
    let a = c.args in
    record { value = omega arith; rows = rw (le-ltb a.b.value a.v (omega arith), eq-eqb a.v a.b.value c.if-v-b.true) c.joined.ensures }

pub returns : goal.returns
returns c =
    let a = c.args in
    record { value = omega arith; rows = rw (le-ltb a.b.value a.v (omega arith), ne_eqb a.v a.b.value c.if-v-b.false) }
