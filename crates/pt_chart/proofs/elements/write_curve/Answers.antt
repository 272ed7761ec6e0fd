-- `write_curve`: its contract.
use Rattle.std.proofs.Common.{append_assoc}
use Rattle.pt_chart.specs.Text.{curve_text}
use Rattle.pt_chart.proofs.Writing.{reads_as}
use Rattle.pt_chart.proofs.elements.write_curve.Goals as goal

pub returns : goal.returns
unfolding curve_text
returns c = reads_as _ _ _ _ (curve_text c.args.bent c.args.to) c.write.ensures.bytes (simp append_assoc)
