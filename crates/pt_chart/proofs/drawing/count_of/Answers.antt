-- `count_of`: its loop over `row`.
use Rattle.std.proofs.Common.{ap, ◌∙◌, arith}
use Rattle.std.specs.Prelude.{max}
use Rattle.pt_chart.proofs.Rows.{count_of_more}
use Rattle.pt_chart.proofs.drawing.count_of.Goals as goal

pub loop-row-preserved : goal.loop-row-preserved
loop-row-preserved c =
    c.max-count.ensures ∙ ap (λ k. max k c.loop-row.count) c.saturating_add.ensures
    ∙ count_of_more c.args.rows.now c.loop-row.row-index c.loop-row.count (omega arith) c.loop-row.invariant
