-- `list_sayings`: its loop over `letter`.
use Rattle.std.proofs.Common.{rules, arith}
use Rattle.pt_chart.specs.declared.part.Part.TheVariants.{Saying}
use Rattle.pt_chart.proofs.Rows.{no_letter, one_more_given}
use Rattle.pt_chart.proofs.drawing.list_sayings.Goals as goal

pub loop-letter-preserved : goal.loop-letter-preserved
loop-letter-preserved c =
    one_more_given Saying c.args.parts.now.items c.loop-letter.parts.items c.push.new.self.items c.args.letters.now c.loop-letter.letter-index no_letter
    (omega arith) c.loop-letter.invariant (search rules)
