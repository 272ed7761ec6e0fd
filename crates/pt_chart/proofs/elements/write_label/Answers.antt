-- `write_label`: its contract.
use Rattle.std.proofs.Common.{append_assoc}
use Rattle.pt_chart.specs.Text.{label_text}
use Rattle.pt_chart.proofs.Writing.{reads_as}
use Rattle.pt_chart.proofs.elements.write_label.Goals as goal

pub returns : goal.returns
unfolding label_text
returns c = reads_as _ _ _ _ (label_text c.args.stroke c.args.side.now c.args.at c.args.said.now) c.write.ensures.bytes (simp append_assoc)
