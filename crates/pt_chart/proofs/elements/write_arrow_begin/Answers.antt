-- `write_arrow_begin`: its contract.
use Rattle.std.proofs.Common.{append_assoc}
use Rattle.pt_chart.specs.Text.{arrow_begin_text}
use Rattle.pt_chart.proofs.Writing.{reads_as}
use Rattle.pt_chart.proofs.elements.write_arrow_begin.Goals as goal

pub returns : goal.returns
unfolding arrow_begin_text
returns c = reads_as _ _ _ _ (arrow_begin_text c.args.stroke c.args.flight.now c.args.from) c.write.ensures.bytes (simp append_assoc)
