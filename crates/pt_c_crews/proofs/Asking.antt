-- What a supervisor is asked about its children.
use Rattle.std.proofs.Common.{◌≡◌, ℕ, Option, Result, subst}
use Rattle.pt_signal.specs.declared.pid.Pid.{Pid}
use Rattle.pt_events.specs.History.{Past}
use Rattle.pt_shard.specs.ShardState.{ShardState}
use Rattle.pt_children.specs.declared.child_fault.ChildFault.{ChildFault}
use Rattle.pt_supervisor.specs.declared.supervisor.Supervisor.{Supervisor}
use Rattle.pt_scheduler.specs.declared.plan.Plan.{Plan}
use Rattle.pt_scheduler.specs.declared.scheduler.Scheduler.{Scheduler}
use Rattle.pt_scheduler.specs.Asking.{AsksBoss}
use Rattle.pt_scheduler.specs.Owning.{desk_of}
use Rattle.pt_scheduler.specs.Scheduling.{SchedulerAttends, SchedulerUpholds}
use Rattle.pt_c_tools.specs.CrossingChildren.{child_code}
use Rattle.pt_c_crews.specs.Children.{CrewAsks}

-- q is the pid that was passed in, crossed
pub asked : {A : Type 0} (p q : Pid) (asks : Result A ChildFault → Supervisor Plan → Supervisor Plan → Type 0) (writes : Option (Result A ChildFault) → Type 0) (code : ℕ) (old new : Scheduler) (answer : Option (Result A ChildFault))
    → q ≡ p → code ≡ child_code answer → writes answer → AsksBoss q asks answer old new
    → ((d : ShardState) → SchedulerAttends old d → SchedulerAttends new d) → ((past : Past) (d : ShardState) → SchedulerUpholds past old d → SchedulerUpholds past new d) → desk_of new ≡ desk_of old
    → CrewAsks p asks writes code old new
asked p q asks writes code old new answer is told wrote does attends upholds desk = record {
  answer = answer;
  told = told;
  wrote = wrote;
  does = subst (λ (x : Pid). AsksBoss x asks answer old new) is does;
  keeps = record { attends = attends; upholds = upholds; desk = desk };
}
