-- `desks_of`: what holds in its loop over `pid`.
use Rattle.std.proofs.Common.{ℕ, ◌<◌, get_or}
use Rattle.pt_signal.specs.declared.pid.Pid.{Pid}
use Rattle.pt_chart.proofs.layout.desks_of.Given as goal

abbrev pub invariant-loop-pid : goal.invariant-loop-pid
invariant-loop-pid l = (k : ℕ) (p : Pid) → k < l.pid-index → (get_or l.named k p).shard < l.desks
