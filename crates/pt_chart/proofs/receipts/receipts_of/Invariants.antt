-- `receipts_of`: what holds in its loop over `k`.
use Rattle.std.proofs.Common.{drop}
use Rattle.pt_chart.proofs.Arrivals.{Queues}
use Rattle.pt_chart.proofs.Mentioning.{Seen}
use Rattle.pt_chart.proofs.receipts.receipts_of.Given as goal

abbrev pub invariant-loop-k : goal.invariant-loop-k
invariant-loop-k l = Seen l.fn.from l.events (drop l.k l.own) (λ at. Queues l.fn.from l.events at l.receipts)
