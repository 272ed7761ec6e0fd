-- `widest_label`: its loop over `letter`.
use Rattle.std.proofs.Common.{ap, ◌∙◌, arith}
use Rattle.std.specs.Prelude.{max}
use Rattle.pt_chart.proofs.Rows.{no_letter, widest_beside_more}
use Rattle.pt_chart.proofs.drawing.widest_label.Goals as goal

pub loop-letter-preserved : goal.loop-letter-preserved
loop-letter-preserved c =
    c.max-widest.ensures ∙ ap (λ k. max k c.loop-letter.widest) c.in_ok-letter_beside.ensures
    ∙ widest_beside_more c.args.room c.args.letters.now c.loop-letter.letter-index c.loop-letter.widest no_letter (omega arith) c.loop-letter.invariant
