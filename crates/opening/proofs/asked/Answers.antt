use mathlib.Core.Bool.{true, false}
use mathlib.Core.Path.{◌≡◌, sym, ◌∙◌, ap}
use Prim.Native.Nat.{ℕ}
use native.Mathlib.Omega.{arith}
use Rattle.table.proofs.WellFormedLaws.{sized, long, few-rows}
use Rattle.fields.specs.Layout.{used_of}
use Rattle.table.specs.WellFormed.{only_rows, well_formed}
use Rattle.opening.proofs.OpeningLaws.{asks-sheet, asks-table, asks-no-more, asks-rows, opened}
use Rattle.opening.proofs.asked.Goals.{After-only_rows, Else-not-ordered}
use Rattle.opening.proofs.asked.Goals as goal

formed : (k : Else-not-ordered) → well_formed k.args.t.now ≡ true
formed k = sym k.ordered.ensures.0 ∙ k.if-not-ordered.false

rows : (k : After-only_rows) → let a = k.args in k.only_rows.result ≡ only_rows (used_of a.t.now) a.r
rows k = let a = k.args in k.only_rows.ensures ∙ ap (λ (m : ℕ). only_rows m a.r) k.used.ensures

pub returns-in_default-clause-asked : goal.returns-in_default-clause-asked
returns-in_default-clause-asked c = let a = c.args in asks-sheet a.t.now a.sheet.now a.r a.n c.in_default.ensures

pub returns-then-not-ordered-clause-asked : goal.returns-then-not-ordered-clause-asked
returns-then-not-ordered-clause-asked c =
    let a = c.args in
    asks-table a.t.now a.sheet.now a.r a.n c.in-Some.ensures.0 (sym c.ordered.ensures.0 ∙ c.if-not-ordered.true)

pub returns-then-n-gt0-clause-asked : goal.returns-then-n-gt0-clause-asked
returns-then-n-gt0-clause-asked c =
    let a = c.args in
    asks-no-more a.t.now a.sheet.now a.r a.n c.in-Some.ensures.0 (formed (goal.at.returns-then-n-gt0-clause-asked c).Else-not-ordered) c.if-n-gt0.true

pub returns-then-n-gt0-clause-ready : goal.returns-then-n-gt0-clause-ready
returns-then-n-gt0-clause-ready c = opened _ (c.ordered.ensures.1 c.if-not-ordered.false) c.in-Some.ensures.0 c.in-Some.ensures.1

pub used-requires : goal.used-requires
used-requires c = long (sized (formed (goal.at.used-requires c).Else-not-ordered))

pub only_rows-requires : goal.only_rows-requires
only_rows-requires c = omega (arith, c.used.ensures, few-rows (sized (formed (goal.at.only_rows-requires c).Else-not-ordered)))

pub returns-then-not-only_rows-clause-asked : goal.returns-then-not-only_rows-clause-asked
returns-then-not-only_rows-clause-asked c =
    let p = goal.at.returns-then-not-only_rows-clause-asked c in
    let a = c.args in
    asks-rows a.t.now a.sheet.now a.r a.n false c.in-Some.ensures.0 (formed p.Else-not-ordered) (omega arith) (sym (rows p.After-only_rows) ∙ c.if-not-only_rows.true)

pub returns-clause-asked : goal.returns-clause-asked
returns-clause-asked c =
    let p = goal.at.returns-clause-asked c in
    let a = c.args in
    asks-rows a.t.now a.sheet.now a.r a.n true c.in-Some.ensures.0 (formed p.Else-not-ordered) (omega arith) (sym (rows p.After-only_rows) ∙ c.if-not-only_rows.false)

pub returns-clause-ready : goal.returns-clause-ready
returns-clause-ready c = opened _ (c.ordered.ensures.1 c.if-not-ordered.false) c.in-Some.ensures.0 c.in-Some.ensures.1
