-- What the calls of a crew through its handle leave in it.
use Rattle.std.specs.Prelude.{◌≡◌, ◌⊎◌, ℕ, List, [], None, reverse}
use Rattle.pt_signal.specs.declared.pid.Pid.{Pid}
use Rattle.pt_events.specs.declared.event.Stamped.{Stamped}
use Rattle.pt_events.specs.History.{Past}
use Rattle.pt_shard.specs.ShardState.{ShardState}
use Rattle.pt_desk.specs.DeskState.{DeskState}
use Rattle.pt_crew.specs.Crews.{queue, roles, time_of, waiting, was_refused}
use Rattle.pt_crew.specs.Visiting.{AreSame}
use Rattle.pt_scheduler.specs.declared.scheduler.Scheduler.{Scheduler}
use Rattle.pt_scheduler.specs.Owning.{desk_of}
use Rattle.pt_scheduler.specs.Scheduling.{SchedulerAttends, SchedulerGoesOn, SchedulerUpholds, crew_of}
use Rattle.pt_c_values.specs.Places.{HandlePlace, full}
use Rattle.pt_c_values.specs.Filling.{IfEmpty}
use Rattle.pt_c_values.specs.declared.types.PtAnswer.{PtAnswer}
use Rattle.pt_c_values.specs.declared.types.PtTurned.{PtTurned}
use Rattle.pt_c_values.specs.Codes.{IfOwn, filled}
use Rattle.pt_c_values.specs.declared.types.PtJob.{PtJob}
use Rattle.pt_c_crews.specs.Owning.{is_own}
use Rattle.pt_c_crews.specs.Crewing.{CrewSteps, KeepsCrew, TakesAnswers}

-- with no process, for whichever desk
pub record IsNewCrew (t : Scheduler) : Type 0 where
  pub attends : (d : ShardState) → SchedulerAttends t d
  pub nobody : (p : Pid) → roles (crew_of t) p ≡ None
  pub queue : queue (crew_of t) ≡ []
  pub born : waiting (crew_of t) ≡ []
  pub time : time_of (crew_of t) ≡ 0
  pub desk : desk_of t ≡ None
  pub upholds : (past : Past) (d : ShardState) → SchedulerUpholds past t d

-- the handle has a new crew; or there was no memory, or it had one already, and it is as it was
abbrev pub OpensCrew : ℕ → HandlePlace Scheduler → HandlePlace Scheduler → Type 0
OpensCrew code before after =
    IfEmpty before (((code ≡ 0) × (t : Scheduler) × IsNewCrew t × (after ≡ full t)) ⊎ ((code ≡ 2) × (after ≡ before)))
    ((code ≡ filled) × (after ≡ before))

pub record AnswersInOrder (answers : List PtAnswer) (code taken : ℕ) (old new : Scheduler) : Type 0 where
  pub does : TakesAnswers answers code taken old new
  pub keeps : KeepsCrew old new

abbrev pub GoesOnIn : List Stamped → ℕ → Scheduler → Scheduler → Type 0
GoesOnIn history code old new = (code ≡ 0) × SchedulerGoesOn (reverse history) old new

pub record SetsCrewTime (now code : ℕ) (old new : Scheduler) : Type 0 where
  pub done : code ≡ 0
  pub time : time_of (crew_of new) ≡ now
  pub keeps : KeepsCrew old new
  pub roles : AreSame (roles (crew_of old)) (roles (crew_of new))
  pub queue : queue (crew_of new) ≡ queue (crew_of old)
  pub waiting : waiting (crew_of new) ≡ waiting (crew_of old)
  pub refused : was_refused (crew_of new) ≡ was_refused (crew_of old)

-- a step, if the desk is the crew's own; then it is the crew's
abbrev pub StepsIfOwn : ℕ → ℕ → List PtJob → List PtJob → ℕ → ℕ → PtTurned → PtTurned → Scheduler → DeskState → Scheduler
    → DeskState → Type 0
StepsIfOwn budget code jobs later before count out turned old d new e =
    IfOwn (is_own old d) code
    ((new ≡ old) × (e ≡ d) × (later ≡ jobs) × (count ≡ before) × (turned ≡ out))
    ((code ≡ 0) × CrewSteps budget jobs old d turned count later new e)
