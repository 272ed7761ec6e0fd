-- `write_said_bearing`: its contract.
use Rattle.pt_chart.proofs.Writing.{written_then}
use Rattle.pt_chart.proofs.text.write_said_bearing.Goals as goal

pub returns : goal.returns
returns c =
    written_then _ _ _ _ _ _ (rw (c.bearing_class.ensures, c.spot.ensures, c.x.ensures) at c.in_ok-write_level.ensures)
    (rw c.bearing_place.ensures at c.write_label.ensures)
