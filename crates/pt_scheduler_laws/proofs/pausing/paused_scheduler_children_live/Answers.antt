-- `paused_scheduler_children_live`: its contract.
use Rattle.pt_scheduler_laws.proofs.Scheduling.{scheduler_pauses_hold}
use Rattle.pt_scheduler_laws.proofs.pausing.paused_scheduler_children_live.Goals as goal

pub returns : goal.returns
returns c = scheduler_pauses_hold
