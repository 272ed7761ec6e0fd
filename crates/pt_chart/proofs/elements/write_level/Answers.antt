-- `write_level`: its contract.
use Rattle.std.proofs.Common.{append_assoc}
use Rattle.pt_chart.specs.Text.{level_text}
use Rattle.pt_chart.proofs.Writing.{reads_as}
use Rattle.pt_chart.proofs.elements.write_level.Goals as goal

pub returns : goal.returns
unfolding level_text
returns c = reads_as _ _ _ _ (level_text c.args.class.now c.args.from c.args.to) c.write.ensures.bytes (simp append_assoc)
