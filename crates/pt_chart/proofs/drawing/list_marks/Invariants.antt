-- `list_marks`: what holds in its loop over `at`.
use Rattle.std.proofs.Common.{◌≡◌, ◌++◌, take}
use Rattle.pt_chart.specs.Drawing.{each_numbered, mark}
use Rattle.pt_chart.proofs.drawing.list_marks.Given as goal

abbrev pub invariant-loop-at : goal.invariant-loop-at
invariant-loop-at l = l.parts.items ≡ l.fn.parts.items ++ each_numbered (mark l.rows l.columns) (take l.at l.events)
