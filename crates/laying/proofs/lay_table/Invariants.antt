use mathlib.Core.Path.{◌≡◌}
use lib.ListN.{length}
use Rattle.fields.specs.Layout.{body_length}
use Rattle.laying.proofs.LaidLaws.{LaidOut}
use Rattle.counties.specs.Counties.{county_at}
use Rattle.protocol.specs.Calls.{names_in}
use Rattle.laying.proofs.lay_table.Given as goal

abbrev pub invariant-loop-i : goal.invariant-loop-i
invariant-loop-i l = (length l.t ≡ length l.initial.t) × LaidOut l.capacity l.n l.list l.files l.file (body_length l.files l.file) (names_in l.names) (county_at l.counties) l.i l.at l.t
