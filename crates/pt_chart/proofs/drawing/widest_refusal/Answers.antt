-- `widest_refusal`: its loop over `stamped`.
use Rattle.std.proofs.Common.{ap, ◌∙◌, arith}
use Rattle.std.specs.Prelude.{max}
use Rattle.pt_chart.proofs.Numbering.{nothing}
use Rattle.pt_chart.proofs.Rows.{widest_refusal_more}
use Rattle.pt_chart.proofs.drawing.widest_refusal.Goals as goal

pub loop-stamped-preserved : goal.loop-stamped-preserved
loop-stamped-preserved c =
    c.max-widest.ensures ∙ ap (λ k. max k c.loop-stamped.widest) c.in_ok-refused_beside.ensures
    ∙ widest_refusal_more c.args.events.now c.loop-stamped.stamped-index c.loop-stamped.widest nothing (omega arith) c.loop-stamped.invariant
