-- `sent_came_or_flies`: its contract.
use Rattle.pt_laws.proofs.order.Flight.{came_or_flies}
use Rattle.pt_laws.proofs.laws.sent_came_or_flies.Goals as goal

pub returns : goal.returns
returns c = came_or_flies
