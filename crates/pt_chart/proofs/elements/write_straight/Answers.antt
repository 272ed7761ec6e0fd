-- `write_straight`: its contract.
use Rattle.std.proofs.Common.{append_assoc}
use Rattle.pt_chart.specs.Text.{straight_text}
use Rattle.pt_chart.proofs.Writing.{reads_as}
use Rattle.pt_chart.proofs.elements.write_straight.Goals as goal

pub returns : goal.returns
unfolding straight_text
returns c = reads_as _ _ _ _ (straight_text c.args.to) c.write.ensures.bytes (simp append_assoc)
