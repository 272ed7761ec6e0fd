-- `in_flight`: what holds in its loop over `letter`.
use Rattle.std.proofs.Common.{◌≡◌, take}
use Rattle.pt_chart.specs.Drawing.{in_flight}
use Rattle.pt_chart.proofs.drawing.in_flight.Given as goal

abbrev pub invariant-loop-letter : goal.invariant-loop-letter
invariant-loop-letter l = l.flights ≡ in_flight (take l.letter-index l.letters)
