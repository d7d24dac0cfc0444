use mathlib.Core.Bool.{true, false, and-false}
use mathlib.Core.Logic.{inl, inr}
use mathlib.Core.Path.{◌≡◌, refl, ap, ◌∙◌}
use native.Mathlib.Omega.{arith}
use native.Mathlib.Nat.{mod-lt}
use borrow.Author.Tests.{le-leb, lt-leb}
use lib.Dec.{leb}
use Rattle.coterie.proofs.TurnLaws.{choice-read, choice-write}
use Rattle.quorums.specs.Quorums.{is_write}
use Rattle.sets.proofs.SetLaws.{has-empty}
use Rattle.coterie.proofs.choices.choose.Goals as goal

pub returns-then-columns-eq0 : goal.returns-then-columns-eq0
returns-then-columns-eq0 c =
    let a = c.args in
    elim c.then-columns-eq0.either [ inl e ↦ rw e has-empty | inr h ↦ rw (lt-leb a.length 64 h.1, and-false (leb 1 a.g.cols)) has-empty ]

pub read_choice-set-requires : goal.read_choice-set-requires
read_choice-set-requires c = (c.requires (omega arith), omega arith, omega arith)

pub overflow_add-name : goal.overflow_add-name
overflow_add-name c =
    let a = c.args in
    omega (arith, mod-lt a.name {m = a.g.cols} (omega arith))

pub with_column-requires : goal.with_column-requires
with_column-requires c =
    let a = c.args in
    let h = mod-lt a.name {m = a.g.cols} (omega arith) in (omega arith, omega arith, omega arith)

pub returns-in-Write : goal.returns-in-Write
returns-in-Write c =
    let a = c.args in
    let kind : is_write a.kind ≡ true = ap is_write c.in-Write.is in
    rw (le-leb 1 a.g.cols (omega arith), le-leb a.length 64 (omega arith))
    (c.with_column.ensures ∙ choice-write a.kind a.g a.length a.name kind _ _ refl c.read_choice-set.ensures)

pub returns-in-Read : goal.returns-in-Read
returns-in-Read c =
    let a = c.args in
    let kind : is_write a.kind ≡ false = ap is_write c.in-Read.is in
    rw (le-leb 1 a.g.cols (omega arith), le-leb a.length 64 (omega arith))
    (c.read_choice-set.ensures ∙ choice-read a.kind a.g a.length a.name kind)
