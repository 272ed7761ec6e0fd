-- `write_alive`: its contract.
use Rattle.std.proofs.Common.{append_assoc}
use Rattle.pt_chart.specs.Text.{alive_text}
use Rattle.pt_chart.proofs.Writing.{reads_as}
use Rattle.pt_chart.proofs.elements.write_alive.Goals as goal

pub returns : goal.returns
unfolding alive_text
returns c = reads_as _ _ _ _ (alive_text c.args.from c.args.to) c.write.ensures.bytes (simp append_assoc)
