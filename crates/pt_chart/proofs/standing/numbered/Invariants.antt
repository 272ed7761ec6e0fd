-- `numbered`: what holds in its loop over `at`.
use Rattle.pt_chart.proofs.Rowing.{Numbers}
use Rattle.pt_chart.proofs.standing.numbered.Given as goal

abbrev pub invariant-loop-at : goal.invariant-loop-at
invariant-loop-at l = Numbers l.births l.follows l.at l.row l.rows.items
