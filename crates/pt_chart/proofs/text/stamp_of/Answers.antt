-- `stamp_of`: its contract.
use Rattle.std.proofs.Common.{append_assoc}
use Rattle.std.specs.String.{string_bytes}
use Rattle.pt_chart.specs.Text.{stamp_text}
use Rattle.pt_chart.proofs.Writing.{text_as}
use Rattle.pt_chart.proofs.text.stamp_of.Goals as goal

pub returns : goal.returns
returns c = text_as string_bytes _ _ (stamp_text c.args.event) (simp append_assoc) c.format.ensures.ok
