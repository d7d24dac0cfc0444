use mathlib.Core.Logic.{inl, inr}
use native.Mathlib.Omega.{arith}
use Rattle.notices.proofs.SaidLaws.{one-shown, range-shown, none-shown}
use Rattle.notices.proofs.shown_name.Goals as goal

pub returns-in_default : goal.returns-in_default
returns-in_default c = let a = c.args in none-shown a.call a.name (λ e. omega arith) (λ e. omega arith) (λ e. omega arith) (λ e. omega arith)

pub returns-in_default-2 : goal.returns-in_default-2
returns-in_default-2 c =
    let a = c.args in none-shown a.call a.name (λ e. omega arith) (λ e. omega arith) (λ e. grind arith) (λ e. grind arith)

pub returns-in-2 : goal.returns-in-2
returns-in-2 c =
    let a = c.args in
    one-shown a.call a.name (elim c.in-2.is [ inl e ↦ inr (inr (inl e)) | inr e ↦ inr (inr (inr e)) ])

pub returns-in-2-2 : goal.returns-in-2-2
returns-in-2-2 c = let a = c.args in range-shown a.call a.name (omega arith) (omega arith)
