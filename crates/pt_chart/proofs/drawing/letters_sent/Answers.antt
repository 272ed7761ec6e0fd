-- `letters_sent`: its loop over `place`.
use Rattle.std.proofs.Common.{[], rules, arith}
use Rattle.pt_chart.proofs.Numbering.{one_more}
use Rattle.pt_chart.specs.Drawing.{letters}
use Rattle.pt_chart.proofs.drawing.letters_sent.Goals as goal

pub loop-place-preserved : goal.loop-place-preserved
loop-place-preserved c =
    one_more (letters c.args.rows.now c.args.columns.now) [] c.loop-place.letters.items c.list_letters_from.new.listed.items c.args.columns.now c.loop-place.place c.index-columns-place.result (omega arith) (search rules) c.loop-place.invariant c.in_ok-list_letters_from.ensures
