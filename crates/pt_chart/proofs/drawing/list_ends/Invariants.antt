-- `list_ends`: what holds in its loop over `place`.
use Rattle.std.proofs.Common.{◌≡◌, ◌++◌, take}
use Rattle.pt_chart.specs.Drawing.{each_numbered, end}
use Rattle.pt_chart.proofs.drawing.list_ends.Given as goal

abbrev pub invariant-loop-place : goal.invariant-loop-place
invariant-loop-place l = l.parts.items ≡ l.fn.parts.items ++ each_numbered (end l.rows) (take l.place l.columns)
