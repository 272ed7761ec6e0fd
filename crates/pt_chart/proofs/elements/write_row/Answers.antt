-- `write_row`: its contract.
use Rattle.std.proofs.Common.{append_assoc}
use Rattle.pt_chart.specs.Text.{row_text}
use Rattle.pt_chart.proofs.Writing.{reads_as}
use Rattle.pt_chart.proofs.elements.write_row.Goals as goal

pub returns : goal.returns
unfolding row_text
returns c = reads_as _ _ _ _ (row_text c.args.y c.args.stamp.now) c.write.ensures.bytes (simp append_assoc)
