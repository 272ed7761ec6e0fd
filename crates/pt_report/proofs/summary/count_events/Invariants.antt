-- `count_events`: what holds in its loop over `desk`.
use Rattle.std.proofs.Common.{◌≡◌, ◌-◌, ◌^◌, length}
use Rattle.std.specs.Prelude.{min}
use Rattle.pt_events.specs.Counting.{below}
use Rattle.pt_gathered.specs.Gathered.{journals}
use Rattle.pt_report.proofs.summary.count_events.Given as goal

abbrev pub invariant-loop-desk : goal.invariant-loop-desk
invariant-loop-desk l = l.count ≡ min (below (λ d. length (journals l.gathered d)) l.desk) (2 ^ 64 - 1)
