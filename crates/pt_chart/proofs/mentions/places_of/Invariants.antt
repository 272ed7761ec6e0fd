-- `places_of`: what holds in its loop over `at`.
use Rattle.pt_chart.proofs.Naming.{ArePlacesTo}
use Rattle.pt_chart.proofs.mentions.places_of.Given as goal

abbrev pub invariant-loop-at : goal.invariant-loop-at
invariant-loop-at l = ArePlacesTo l.pids l.at l.places
