-- `list_columns`: what holds in its loop over `place`.
use Rattle.std.proofs.Common.{◌≡◌, ◌++◌, take}
use Rattle.pt_chart.specs.Drawing.{each_numbered, column}
use Rattle.pt_chart.proofs.drawing.list_columns.Given as goal

abbrev pub invariant-loop-place : goal.invariant-loop-place
invariant-loop-place l = l.parts.items ≡ l.fn.parts.items ++ each_numbered (column l.rows) (take l.place l.columns)
