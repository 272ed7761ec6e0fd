-- `list_marks`: its loop over `at`.
use Rattle.std.proofs.Common.{arith}
use Rattle.pt_chart.specs.Drawing.{mark}
use Rattle.pt_chart.proofs.Numbering.{one_more_event}
use Rattle.pt_chart.proofs.drawing.list_marks.Goals as goal

pub loop-at-preserved : goal.loop-at-preserved
loop-at-preserved c = one_more_event (mark c.args.rows.now c.args.columns.now) c.args.parts.now.items c.loop-at.parts.items c.list_mark.new.parts.items c.args.events.now c.loop-at.at (omega arith) c.loop-at.invariant (rw c.row_of.ensures at c.in_ok-list_mark.ensures)
