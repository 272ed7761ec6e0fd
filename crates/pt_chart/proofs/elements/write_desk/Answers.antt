-- `write_desk`: its contract.
use Rattle.std.proofs.Common.{append_assoc}
use Rattle.pt_chart.specs.Text.{desk_text}
use Rattle.pt_chart.proofs.Writing.{reads_as}
use Rattle.pt_chart.proofs.elements.write_desk.Goals as goal

pub returns : goal.returns
unfolding desk_text
returns c = reads_as _ _ _ _ (desk_text c.args.x c.args.desk) c.write.ensures.bytes (simp append_assoc)
