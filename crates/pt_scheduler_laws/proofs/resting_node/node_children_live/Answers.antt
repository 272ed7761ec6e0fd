-- `node_children_live`: its contract.
use Rattle.std.proofs.Common.{map}
use Rattle.pt_pauses.proofs.AllLive.{all_children_live}
use Rattle.pt_scheduler.specs.Members.{boss_part}
use Rattle.pt_scheduler.specs.Scheduling.{crew_of}
use Rattle.pt_scheduler_laws.proofs.Quieting.{crews_idle, crews_uphold}
use Rattle.pt_scheduler_laws.proofs.resting_node.node_children_live.Goals as goal

pub returns : goal.returns
returns c = λ past schedulers desks g u idle.
    all_children_live boss_part
    c.still_node_laws.ensures
    past (map crew_of schedulers) desks g
    (crews_uphold past schedulers desks u) (crews_idle past schedulers desks u idle)
