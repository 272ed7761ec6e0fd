-- `count_of`: what holds in its loop over `row`.
use Rattle.std.proofs.Common.{◌≡◌, take}
use Rattle.pt_chart.specs.Rows.{count_of}
use Rattle.pt_chart.proofs.drawing.count_of.Given as goal

abbrev pub invariant-loop-row : goal.invariant-loop-row
invariant-loop-row l = l.count ≡ count_of (take l.row-index l.rows)
