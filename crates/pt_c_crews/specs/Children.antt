-- What C is told that asks a supervisor of a crew about its children.
use Rattle.std.specs.Prelude.{◌≡◌, ⊤, ℕ, Option, Result}
use Rattle.pt_signal.specs.declared.pid.Pid.{Pid}
use Rattle.pt_children.specs.declared.child_fault.ChildFault.{ChildFault}
use Rattle.pt_supervisor.specs.declared.supervisor.Supervisor.{Supervisor}
use Rattle.pt_scheduler.specs.declared.plan.Plan.{Plan}
use Rattle.pt_scheduler.specs.declared.scheduler.Scheduler.{Scheduler}
use Rattle.pt_shard.specs.declared.fault.Fault.TheVariants.{NoProc}
use Rattle.pt_scheduler.specs.Asking.{AsksBoss, BossAnswersNotStarted, BossAnswersStarted, BossAsksProgram, BossDeletes, BossRestarts, BossStarts, BossTerminates, cause_seen, counts_seen}
use Rattle.pt_scheduler.specs.Scheduling.{member_views}
use Rattle.pt_c_values.specs.Codes.{IfCrosses}
use Rattle.pt_c_values.specs.Places.{ShowsCode}
use Rattle.pt_c_values.specs.declared.types.PtChildCounts.{PtChildCounts}
use Rattle.pt_c_values.specs.declared.types.PtChildSpec.{PtChildSpec}
use Rattle.pt_c_values.specs.declared.types.PtGaveUp.{PtGaveUp}
use Rattle.pt_c_crews.specs.Crewing.{KeepsCrew}
use Rattle.pt_c_tools.specs.CrossingChildren.{cause_out, child_code, child_in, counts_out, told_after}

-- a supervisor is asked this; the code tells what it made of it
pub record CrewAsks {A : Type 0} (p : Pid) (asks : Result A ChildFault → Supervisor Plan → Supervisor Plan → Type 0)
    (writes : Option (Result A ChildFault) → Type 0) (code : ℕ) (old new : Scheduler) : Type 0 where
  pub answer : Option (Result A ChildFault)
  pub told : code ≡ child_code answer
  pub wrote : writes answer
  pub does : AsksBoss p asks answer old new
  pub keeps : KeepsCrew old new

abbrev pub CrewStartsChild : Pid → PtChildSpec → ℕ → ℕ → ℕ → Scheduler → Scheduler → Type 0
CrewStartsChild p child code before after old new =
    IfCrosses (child_in child) code ((new ≡ old) × (after ≡ before))
    (λ known. CrewAsks p (λ r was is. BossStarts known was r is) (λ r. after ≡ told_after r before) code old new)

abbrev pub CrewTerminatesChild : Pid → ℕ → ℕ → Scheduler → Scheduler → Type 0
CrewTerminatesChild p tag code old new = CrewAsks p (λ r was is. BossTerminates tag was r is) (λ r. ⊤) code old new

abbrev pub CrewRestartsChild : Pid → ℕ → ℕ → Scheduler → Scheduler → Type 0
CrewRestartsChild p tag code old new = CrewAsks p (λ r was is. BossRestarts tag was r is) (λ r. ⊤) code old new

abbrev pub CrewIsToldStarted : Pid → ℕ → Pid → ℕ → Scheduler → Scheduler → Type 0
CrewIsToldStarted p tag child code old new =
    CrewAsks p (λ r was is. BossAnswersStarted tag child was r is) (λ r. ⊤) code old new

abbrev pub CrewIsToldNotStarted : Pid → ℕ → ℕ → Scheduler → Scheduler → Type 0
CrewIsToldNotStarted p tag code old new =
    CrewAsks p (λ r was is. BossAnswersNotStarted tag NoProc was r is) (λ r. ⊤) code old new

abbrev pub CrewAsksProgram : Pid → ℕ → ℕ → ℕ → Scheduler → Scheduler → Type 0
CrewAsksProgram p code before after old new =
    CrewAsks p (λ r was is. BossAsksProgram was r is) (λ r. after ≡ told_after r before) code old new

abbrev pub CrewDeletesChild : Pid → ℕ → ℕ → ℕ → ℕ → Scheduler → Scheduler → Type 0
CrewDeletesChild p tag code before after old new =
    CrewAsks p (λ r was is. BossDeletes tag was r is) (λ r. after ≡ told_after r before) code old new

-- how many children a supervisor has
abbrev pub TellsCounts : Scheduler → Pid → ℕ → PtChildCounts → PtChildCounts → Type 0
TellsCounts t p code before after = ShowsCode code before after counts_out (counts_seen (member_views t p))

-- why a supervisor gave up
abbrev pub TellsCause : Scheduler → Pid → ℕ → PtGaveUp → PtGaveUp → Type 0
TellsCause t p code before after = ShowsCode code before after cause_out (cause_seen (member_views t p))
