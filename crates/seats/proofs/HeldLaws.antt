-- A choice on two levels holds a quorum of the rows that it was made over, on a well-formed table.
use Rattle.table.specs.Chain.{frame_of}
use Rattle.table.proofs.FormLaws.{formed}
use Rattle.table.proofs.CountyLaws.{county-in}
use Rattle.counties.specs.Claims.{PartsSeated, Placed, ChoiceHolds}
use Rattle.counties.proofs.TwoLevelLaws.{two-level-choice-holds}
use Rattle.seats.specs.Seats.{EveryListIsSeated, EveryChoiceHolds}
use Rattle.seats.proofs.SeatLaws.{every-list-is-seated}

pub every-choice-holds : EveryChoiceHolds
unfolding EveryChoiceHolds EveryListIsSeated ChoiceHolds PartsSeated Placed frame_of
every-choice-holds t e p used =
    two-level-choice-holds (frame_of t) p (λ q sub. (every-list-is-seated t e q (λ i m. used i (sub i m))).many) (λ i m. county-in t (formed t e) i (used i m))
