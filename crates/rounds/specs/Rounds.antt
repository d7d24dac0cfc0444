-- What a round answers, as the papers' one number.
use Rattle.std.specs.Prelude.{◌≡◌, ℕ, Result, Ok, Err}
use Rattle.asking.specs.declared.Refusal.{Refusal}
use Rattle.asking.specs.Asking.{result_number}
use Rattle.asking.specs.Refusals.{refusal_number}
use Rattle.rounds.specs.declared.Stopped.{Stopped}

-- a refusal before the first order
abbrev pub StopsFirst : Refusal → Stopped → Type 0
StopsFirst r s = s ≡ record { refusal = r; done = 0 }

-- "The result holds that refusal and, as value, the number done"
abbrev pub round_number : Result ℕ Stopped → ℕ
round_number (Ok done) = result_number 0 done
round_number (Err s) = result_number (refusal_number s.refusal) s.done
