-- `list_lines`: its loop over `at`.
use Rattle.std.proofs.Common.{arith}
use Rattle.pt_chart.specs.Drawing.{line_parts}
use Rattle.pt_chart.proofs.Numbering.{nothing, one_more_event}
use Rattle.pt_chart.proofs.drawing.list_lines.Goals as goal

pub loop-at-preserved : goal.loop-at-preserved
loop-at-preserved c = one_more_event (line_parts c.args.rows.now c.args.events.now c.args.columns.now) c.args.parts.now.items c.loop-at.parts.items c.list_line.new.parts.items c.args.events.now c.loop-at.at (omega arith) c.loop-at.invariant (c.in_ok-list_line.ensures nothing)
