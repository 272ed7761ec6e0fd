-- `mentions_of`: what holds in its loop over `at`.
use Rattle.pt_chart.proofs.Mentioning.{Notices}
use Rattle.pt_chart.proofs.mentions.mentions_of.Given as goal

abbrev pub invariant-loop-at : goal.invariant-loop-at
invariant-loop-at l = Notices l.events l.at l.mentions
