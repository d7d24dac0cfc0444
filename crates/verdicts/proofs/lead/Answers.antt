use mathlib.Core.Path.{sym, ◌∙◌, ap}
use mathlib.Core.Bool.{Bool}
use Prim.Native.Nat.{ℕ}
use Rattle.bools.proofs.BoolLaws.{and_l}
use Rattle.sets.specs.Upto.{lowest}
use Rattle.sets.specs.Sets.{has}
use Rattle.fields.specs.Layout.{list_of}
use Rattle.verdicts.proofs.lead.Goals as goal

pub list_of-requires : goal.list_of-requires
list_of-requires c =
    (c.requires.0, λ i h. c.requires.1 i (and_l (has c.args.s.bits i) _ (ap (λ (f : ℕ → Bool). f i) (sym c.best-latest.ensures.rows) ∙ h)))

pub returns : goal.returns
returns c =
    record { epoch = c.best-latest.ensures.value; list = c.list_of.ensures ∙ ap (λ (f : ℕ → Bool). list_of c.args.t.now (lowest 64 f)) c.best-latest.ensures.rows }
