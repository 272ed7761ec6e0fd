-- `monitors_of`: what holds in its loop over `monitor`.
use Rattle.std.proofs.Common.{◌≡◌, ◌-◌, length, take, vec_len}
use Rattle.pt_gathered.proofs.resumed.monitors_of.Given as goal

abbrev pub invariant-loop-monitor : goal.invariant-loop-monitor
invariant-loop-monitor l = l.monitors.items ≡ take (vec_len l.monitors) l.process.state.watching

abbrev pub decreases-loop-monitor : goal.decreases-loop-monitor
decreases-loop-monitor l = length l.process.state.watching - vec_len l.monitors
