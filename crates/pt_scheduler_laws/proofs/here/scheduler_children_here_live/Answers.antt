-- `scheduler_children_here_live`: its contract.
use Rattle.pt_pauses.proofs.Staying.{quiet_here_live}
use Rattle.pt_scheduler.specs.Members.{boss_part}
use Rattle.pt_scheduler_laws.proofs.Staying.{children_stay_here, entry_stays_here, schedulers_here_live, schedulers_stay_here, step_stays_here}
use Rattle.pt_scheduler_laws.proofs.here.scheduler_children_here_live.Goals as goal

pub returns-clause-steps : goal.returns-clause-steps
returns-clause-steps c = step_stays_here

pub returns-clause-entries : goal.returns-clause-entries
returns-clause-entries c = entry_stays_here

pub returns-clause-asks : goal.returns-clause-asks
returns-clause-asks c = children_stay_here

pub returns-clause-pauses : goal.returns-clause-pauses
returns-clause-pauses c = schedulers_stay_here

pub returns-clause-quiet : goal.returns-clause-quiet
returns-clause-quiet c = quiet_here_live boss_part c.still_node_laws.ensures

pub returns-clause-node : goal.returns-clause-node
returns-clause-node c = schedulers_here_live c.still_node_laws.ensures
