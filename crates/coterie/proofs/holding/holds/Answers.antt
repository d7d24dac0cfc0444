use mathlib.Core.Path.{◌≡◌, sym, ap, ◌∙◌}
use mathlib.Core.Bool.{Bool, not, true, false}
use mathlib.Core.Logic.{⊎_elim, inl, inr}
use Prim.Native.Nat.{ℕ}
use native.Mathlib.Omega.{arith}
use Rattle.coterie.proofs.TurnLaws.{holds-no, holds-yes, missed-is, none-missed}
use Rattle.quorums.specs.Quorums.{touches, is_write}
use Rattle.sets.proofs.UptoLaws.{every-ext}
use Rattle.sets.specs.Sets.{has, left_of}
use Rattle.sets.specs.Upto.{every}
use Rattle.coterie.proofs.holding.holds.Goals.{After-fills}
use Rattle.coterie.proofs.holding.holds.Goals as goal

-- what the first question to the columns says
touched-is : (c : After-fills) → let a = c.args in
    c.fills.result ≡ every a.g.cols (touches a.g.cols a.length (has a.held.bits))
touched-is c = c.fills.ensures ∙ every-ext _ _ _ c.columns_of-touched.ensures

pub returns-then-columns-eq0 : goal.returns-then-columns-eq0
returns-then-columns-eq0 c =
    let a = c.args in holds-no a.g a.length (has a.held.bits) a.kind (⊎_elim inl (λ h. inr (inl h.1)) c.then-columns-eq0.either)

pub returns-then-not-fills : goal.returns-then-not-fills
returns-then-not-fills c =
    let a = c.args in
    holds-no a.g a.length (has a.held.bits) a.kind (inr (inr (sym (touched-is (goal.at.returns-then-not-fills c).After-fills) ∙ c.if-not-fills.true)))

pub returns-in-Write : goal.returns-in-Write
returns-in-Write c =
    let a = c.args in
    let held = has a.held.bits in
    let kind : is_write a.kind ≡ true = ap is_write c.in-Write.is in
    let outside = c.outside.ensures ∙ ap (λ (s : ℕ → Bool). left_of s held) c.first.ensures in
    ap not c.fills-in-Write.ensures
    ∙ none-missed a.g a.length held _ (λ j u. c.columns_of-missed.ensures j u ∙ ap (λ (s : ℕ → Bool). touches a.g.cols a.length s j) outside ∙ missed-is a.g.cols a.length held j (omega arith))
    ∙ (rw kind at (holds-yes a.g a.length held a.kind (omega arith) (omega arith) (sym (touched-is (goal.at.returns-in-Write c).After-fills) ∙ c.if-not-fills.false)))

pub returns-in-Read : goal.returns-in-Read
returns-in-Read c =
    let a = c.args in
    let kind : is_write a.kind ≡ false = ap is_write c.in-Read.is in
    rw kind at (holds-yes a.g a.length (has a.held.bits) a.kind (omega arith) (omega arith) (sym (touched-is (goal.at.returns-in-Read c).After-fills) ∙ c.if-not-fills.false))
