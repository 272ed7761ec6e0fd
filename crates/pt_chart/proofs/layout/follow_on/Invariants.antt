-- `follow_on`: what holds in its loop over `k`.
use Rattle.std.proofs.Common.{drop}
use Rattle.pt_chart.proofs.Mentioning.{Seen, TracesTo}
use Rattle.pt_chart.proofs.layout.follow_on.Given as goal

abbrev pub invariant-loop-k : goal.invariant-loop-k
invariant-loop-k l = Seen l.fn.pid l.events (drop l.k l.own) (TracesTo l.events l.fn.pid l.follower l.fn.sent.items l.sent.items l.ended)
