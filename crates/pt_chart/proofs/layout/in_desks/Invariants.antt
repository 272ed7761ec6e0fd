-- `in_desks`: what holds in its loop over `desk`.
use Rattle.std.proofs.Common.{◌≡◌}
use Rattle.pt_chart.specs.Desks.{by_desk}
use Rattle.pt_chart.proofs.layout.in_desks.Given as goal

abbrev pub invariant-loop-desk : goal.invariant-loop-desk
invariant-loop-desk l = l.pids.items ≡ by_desk l.desk l.named
