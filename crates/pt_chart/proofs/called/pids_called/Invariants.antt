-- `pids_called`: what holds in its loop over `one`.
use Rattle.std.proofs.Common.{◌≡◌, map, take}
use Rattle.pt_chart.specs.declared.called.Called.{Called}
use Rattle.pt_chart.proofs.called.pids_called.Given as goal

abbrev pub invariant-loop-one : goal.invariant-loop-one
invariant-loop-one l = l.pids.items ≡ map (λ (x : Called). x.pid) (take l.one-index l.called)
