-- `pids_of`: what holds in its loop over `column`.
use Rattle.std.proofs.Common.{◌≡◌, map, take}
use Rattle.pt_chart.specs.declared.layout.Column.{Column}
use Rattle.pt_chart.proofs.drawing.pids_of.Given as goal

abbrev pub invariant-loop-column : goal.invariant-loop-column
invariant-loop-column l = l.pids.items ≡ map (λ (x : Column). x.pid) (take l.column-index l.columns)
