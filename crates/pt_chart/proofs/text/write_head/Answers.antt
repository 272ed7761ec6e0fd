-- `write_head`: its contract.
use Rattle.pt_chart.proofs.Writing.{pushed_then}
use Rattle.pt_chart.proofs.text.write_head.Goals as goal

pub returns : goal.returns
returns c = pushed_then _ _ _ _ _ _ (rw (c.width.ensures.width, c.height.ensures.height) at c.in_ok-write_size.ensures) c.push_str.ensures.bytes
