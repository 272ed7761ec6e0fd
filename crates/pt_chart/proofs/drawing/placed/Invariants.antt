-- `placed`: what holds in its loop over `at`.
use Rattle.std.proofs.Common.{◌≡◌, take}
use Rattle.pt_chart.specs.Drawing.{each_numbered, in_flight, tipped}
use Rattle.pt_chart.proofs.drawing.placed.Given as goal

abbrev pub invariant-loop-at : goal.invariant-loop-at
invariant-loop-at l = (l.placed.items ≡ each_numbered (tipped l.rows l.letters) (take l.at l.letters)) × (l.flights ≡ in_flight (take l.at l.letters))
