use mathlib.Core.Path.{sym, ◌∙◌, ap, subst}
use native.Mathlib.Omega.{arith}
use Prim.Native.Nat.{ℕ, ◌-◌}
use Rattle.window.specs.Windows.{window_of}
use Rattle.windows.specs.Visits.{RightFor}
use Rattle.renew.proofs.SendLaws.{all-sent}
use Rattle.renew.proofs.refresh_copy.Goals as goal

pub send_contents-requires : goal.send_contents-requires
send_contents-requires c =
    let n = c.renew_copy.auto.copy in
    (omega (arith, n, c.requires.0), n ∙ c.requires.1, subst (λ (m : ℕ). RightFor (m - 588) (window_of c.args.source.now)) (sym n) c.requires.2)

pub returns : goal.returns
returns c =
    all-sent c.args.copy.now c.args.source.now c.requires.0 c.requires.1 c.version-version.result _ _ _ _ c.version-version.ensures
    (c.saturating_sub-missing.ensures ∙ ap (λ (n : ℕ). c.version-version.result - n) c.version.ensures) c.renew_copy.ensures c.send_contents.ensures c.take_window.ensures
