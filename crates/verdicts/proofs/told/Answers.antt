use mathlib.Core.Path.{sym, ◌∙◌, ap}
use mathlib.Core.Bool.{Bool, ◌&&◌}
use Prim.Native.Nat.{ℕ}
use Rattle.bools.proofs.BoolLaws.{and_l}
use Rattle.sets.proofs.SetLaws.{has_within}
use Rattle.sets.specs.Sets.{has, cut_to}
use Rattle.protocol.specs.Polls.{listed}
use Rattle.verdicts.proofs.ForceLaws.{listed-leads}
use Rattle.verdicts.proofs.told.Goals as goal

pub lead-force-requires : goal.lead-force-requires
unfolding cut_to
lead-force-requires c =
    (c.requires.0, λ i h. has_within _ c.args.s.bits i c.requires.1 (and_l _ _ (ap (λ (f : ℕ → Bool). f i) (sym c.cut.ensures) ∙ h)))

pub returns : goal.returns
unfolding cut_to listed
returns c q shown =
    let s = c.args.s.bits in
    let these = c.cut.ensures ∙ ap {B = ℕ → Bool} (λ (m : ℕ → Bool) (i : ℕ). has s i && m i) shown.listed in
    let z = listed-leads _ q s s (λ i m. m) _ _ these (rw shown.epochs at c.lead-force.ensures) in
    record { tally = c.tally_of-tally.ensures _ shown; epoch = z.0; list = z.1 }
