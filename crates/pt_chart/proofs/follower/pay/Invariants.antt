-- `pay`: what holds in its loop over `i`.
use Rattle.std.proofs.Common.{◌≡◌, ◌++◌, take, map}
use Rattle.pt_chart.specs.Chart.{sent_at}
use Rattle.pt_chart.proofs.follower.pay.Given as goal

abbrev pub invariant-loop-i : goal.invariant-loop-i
invariant-loop-i l = l.sent.items ≡ l.initial.sent.items ++ map (sent_at l.at) (take l.i l.estate.owed)
