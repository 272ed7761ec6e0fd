-- `write_before`: its contract.
use Rattle.std.proofs.Common.{append_assoc}
use Rattle.pt_chart.specs.Text.{before_text}
use Rattle.pt_chart.proofs.Writing.{reads_as}
use Rattle.pt_chart.proofs.elements.write_before.Goals as goal

pub returns : goal.returns
unfolding before_text
returns c = reads_as _ _ _ _ (before_text c.args.x c.args.end) c.write.ensures.bytes (simp append_assoc)
