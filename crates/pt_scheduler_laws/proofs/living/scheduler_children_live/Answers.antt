-- `scheduler_children_live`: its contract.
use Rattle.pt_scheduler.proofs.Upheld.{outside_upholds, turned_upholds}
use Rattle.pt_scheduler_laws.proofs.living.scheduler_children_live.Goals as goal

pub returns-clause-turn : goal.returns-clause-turn
returns-clause-turn c = turned_upholds

pub returns-clause-outside : goal.returns-clause-outside
returns-clause-outside c = outside_upholds
