-- `Settling::of`: its clauses `waits` and `least`.
use Rattle.pt_gathered.proofs.Ordering.{waits_at_first}
use Rattle.pt_gathered.proofs.Posted.{least_at_first}
use Rattle.pt_gathered.proofs.settling.Settling.of.Goals as goal

pub returns-clause-waits : goal.returns-clause-waits
returns-clause-waits c = waits_at_first 64 c.apart-node.result.0

pub returns-clause-least : goal.returns-clause-least
returns-clause-least c = least_at_first 64 c.apart-node.result.0
