-- `write_named_head`: its contract.
use Rattle.pt_chart.proofs.Writing.{written_then}
use Rattle.pt_chart.proofs.text.write_named_head.Goals as goal

pub returns : goal.returns
returns c = written_then _ _ _ _ _ _ (rw c.head_place.ensures at c.in_ok-write_called.ensures) (rw c.head_place-2.ensures at c.write_whole_name.ensures)
