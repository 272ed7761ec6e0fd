-- `list_all_names`: its loop over `place`.
use Rattle.std.proofs.Common.{rules, arith}
use Rattle.pt_chart.proofs.Numbering.{one_more}
use Rattle.pt_chart.specs.Drawing.{name}
use Rattle.pt_chart.proofs.drawing.list_all_names.Goals as goal

pub loop-place-preserved : goal.loop-place-preserved
loop-place-preserved c =
    one_more (name c.args.row) c.args.parts.now.items c.loop-place.parts.items c.push.new.self.items c.args.columns.now c.loop-place.place c.index-columns-place.result (omega arith) (search rules) c.loop-place.invariant (search rules)
