-- `columns_in`: what holds in its loop over `at`.
use Rattle.std.proofs.Common.{◌≡◌, take}
use Rattle.std.specs.List.{flat_map}
use Rattle.pt_chart.proofs.Naming.{event_columns}
use Rattle.pt_chart.proofs.drawing.columns_in.Given as goal

abbrev pub invariant-loop-at : goal.invariant-loop-at
invariant-loop-at l = l.named.items ≡ flat_map (event_columns l.pids) (take l.at l.block)
