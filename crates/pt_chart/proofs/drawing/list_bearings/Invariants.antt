-- `list_bearings`: what holds in its loop over `at`.
use Rattle.std.proofs.Common.{◌≡◌, ◌++◌, take}
use Rattle.pt_chart.specs.Drawing.{each_numbered, bears}
use Rattle.pt_chart.proofs.drawing.list_bearings.Given as goal

abbrev pub invariant-loop-at : goal.invariant-loop-at
invariant-loop-at l = l.parts.items ≡ l.fn.parts.items ++ each_numbered (bears l.rows l.columns) (take l.at l.events)
