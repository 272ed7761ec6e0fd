-- `write_said_end`: its contract.
use Rattle.pt_chart.proofs.Writing.{written_then}
use Rattle.pt_chart.proofs.text.write_said_end.Goals as goal

pub returns : goal.returns
returns c = written_then _ _ _ _ _ _ (rw c.spot.ensures at c.in_ok-write_shape.ensures) (rw c.end_place.ensures at c.write_label.ensures)
