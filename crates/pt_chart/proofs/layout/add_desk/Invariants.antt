-- `add_desk`: what holds in its loop over `pid`.
use Rattle.std.proofs.Common.{◌≡◌, ◌++◌, take}
use Rattle.std.specs.List.{filter}
use Rattle.pt_chart.specs.Desks.{on_desk}
use Rattle.pt_chart.proofs.layout.add_desk.Given as goal

abbrev pub invariant-loop-pid : goal.invariant-loop-pid
invariant-loop-pid l = l.pids.items ≡ l.fn.pids.items ++ filter (on_desk l.desk) (take l.pid-index l.named)
