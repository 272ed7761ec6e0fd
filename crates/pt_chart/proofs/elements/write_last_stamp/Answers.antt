-- `write_last_stamp`: its contract.
use Rattle.std.proofs.Common.{append_assoc}
use Rattle.pt_chart.specs.Text.{last_stamp_text}
use Rattle.pt_chart.proofs.Writing.{reads_as}
use Rattle.pt_chart.proofs.elements.write_last_stamp.Goals as goal

pub returns : goal.returns
unfolding last_stamp_text
returns c = reads_as _ _ _ _ (last_stamp_text c.args.stamp.now) c.write.ensures.bytes (simp append_assoc)
