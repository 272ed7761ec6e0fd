-- `+play_all`: what holds in its loop over `play_all`.
use Rattle.std.proofs.Common.{◌-◌}
use Rattle.pt_judge.proofs.merging.+play_all.Given as goal

abbrev pub decreases-play_all : goal.decreases-play_all
decreases-play_all l = l.high - l.low
