-- `write_cut_name`: its contract.
use Rattle.std.proofs.Common.{append_assoc}
use Rattle.pt_chart.specs.Text.{cut_name_text}
use Rattle.pt_chart.proofs.Writing.{reads_as}
use Rattle.pt_chart.proofs.elements.write_cut_name.Goals as goal

pub returns : goal.returns
unfolding cut_name_text
returns c = reads_as _ _ _ _ (cut_name_text c.args.at c.args.whole.now c.args.name.now) c.write.ensures.bytes (simp append_assoc)
