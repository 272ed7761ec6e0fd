-- `write_plain`: its contract.
use Rattle.std.proofs.Common.{append_assoc}
use Rattle.pt_chart.specs.Text.{plain_text}
use Rattle.pt_chart.proofs.Writing.{reads_as}
use Rattle.pt_chart.proofs.elements.write_plain.Goals as goal

pub returns : goal.returns
unfolding plain_text
returns c = reads_as _ _ _ _ (plain_text c.args.at c.args.said.now) c.write.ensures.bytes (simp append_assoc)
