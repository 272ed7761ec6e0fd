-- `list_lines`: what holds in its loop over `at`.
use Rattle.std.proofs.Common.{◌≡◌, ◌++◌, take}
use Rattle.pt_chart.specs.Drawing.{each_numbered, line_parts}
use Rattle.pt_chart.proofs.drawing.list_lines.Given as goal

abbrev pub invariant-loop-at : goal.invariant-loop-at
invariant-loop-at l = l.parts.items ≡ l.fn.parts.items ++ each_numbered (line_parts l.rows l.events l.columns) (take l.at l.events)
