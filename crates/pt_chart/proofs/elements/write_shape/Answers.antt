-- `write_shape`: its contract.
use Rattle.std.proofs.Common.{append_assoc}
use Rattle.pt_chart.specs.Text.{shape_text}
use Rattle.pt_chart.proofs.Writing.{reads_as}
use Rattle.pt_chart.proofs.elements.write_shape.Goals as goal

pub returns : goal.returns
unfolding shape_text
returns c = reads_as _ _ _ _ (shape_text c.args.name.now c.args.at) c.write.ensures.bytes (simp append_assoc)
