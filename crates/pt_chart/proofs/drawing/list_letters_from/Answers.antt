-- `list_letters_from`: its loop over `arrow`.
use Rattle.std.proofs.Common.{rules, arith}
use Rattle.pt_chart.specs.Drawing.{column_letter}
use Rattle.pt_chart.proofs.Rows.{no_arrow, one_more_given}
use Rattle.pt_chart.proofs.drawing.list_letters_from.Goals as goal

pub loop-arrow-preserved : goal.loop-arrow-preserved
loop-arrow-preserved c =
    one_more_given (column_letter c.args.rows.now c.args.columns.now c.args.place) c.args.listed.now.items c.loop-arrow.listed.items c.push.new.self.items c.args.shown.now.arrows.items c.loop-arrow.arrow-index no_arrow
    (omega arith) c.loop-arrow.invariant (search rules)
