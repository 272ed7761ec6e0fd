-- `write_size`: its contract.
use Rattle.std.proofs.Common.{append_assoc}
use Rattle.pt_chart.specs.Text.{size_text}
use Rattle.pt_chart.proofs.Writing.{reads_as}
use Rattle.pt_chart.proofs.elements.write_size.Goals as goal

pub returns : goal.returns
unfolding size_text
returns c = reads_as _ _ _ _ (size_text c.args.width c.args.height c.args.events c.args.columns) c.write.ensures.bytes (simp append_assoc)
