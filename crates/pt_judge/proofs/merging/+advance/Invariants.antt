-- `+advance`: what holds in its loop over `advance`.
use Rattle.std.proofs.Common.{◌-◌}
use Rattle.pt_judge.proofs.merging.+advance.Given as goal

abbrev pub decreases-advance : goal.decreases-advance
decreases-advance l = l.high - l.low
