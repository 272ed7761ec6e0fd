-- Schedulers whose supervisors spawn all their children, on their own desks: what keeps them so, and what they are promised.
use Rattle.std.specs.Prelude.{◌≡◌, ℕ, ◌<◌, Bool, false, List, [], length, map, slice_get, slice_index_or, Option, Some, None, Result}
use Rattle.pt_signal.specs.declared.pid.Pid.{Pid}
use Rattle.pt_events.specs.declared.event.Stamped.{Stamped}
use Rattle.pt_events.specs.History.{Past}
use Rattle.pt_shard.specs.declared.fault.Fault.{Fault}
use Rattle.pt_shard.specs.declared.loss.Loss.{Loss}
use Rattle.pt_shard.specs.ShardState.{ShardState}
use Rattle.pt_desk.specs.DeskState.{DeskState}
use Rattle.pt_gathered.specs.Gathered.{GatheredState, IsGathered}
use Rattle.pt_workers.specs.Desks.{all_shards}
use Rattle.pt_behaviour.specs.declared.behaviour.Next.{Next}
use Rattle.pt_crew.specs.Crews.{Enters, IsSame, roles, waiting}
use Rattle.pt_crew.specs.Stepping.{BeginsStep, EndsStep, EntersChild, IsAnswered}
use Rattle.pt_crew.specs.Visiting.{AreSame}
use Rattle.pt_children.specs.declared.child_fault.ChildFault.{ChildFault}
use Rattle.pt_children.specs.declared.spec.ChildSpec.{ChildSpec}
use Rattle.pt_children.specs.declared.spec.SupervisorSpec.{SupervisorSpec}
use Rattle.pt_supervisor.specs.declared.supervisor.Supervisor.{Supervisor}
use Rattle.pt_scheduler.specs.declared.member.Job.{Job}
use Rattle.pt_scheduler.specs.declared.plan.Plan.{Plan}
use Rattle.pt_scheduler.specs.declared.scheduler.Scheduler.{Scheduler}
use Rattle.pt_scheduler.specs.Asking.{AsksBoss, BossAnswersNotStarted, BossAnswersStarted, BossAsksProgram, BossDeletes, BossRestarts, BossStarts, BossTerminates}
use Rattle.pt_scheduler.specs.Members.{boss_part}
use Rattle.pt_scheduler.specs.Scheduling.{BecomesBoss, Fills, NotesLoss, Pulls, SchedulerGoesOn, SpawnsBoss, crew_of, new_member}
use Rattle.pt_pauses.specs.Here.{AllHereLive, CrewHere}
use Rattle.pt_pauses.specs.Still.{IsStillNode}
use Rattle.pt_scheduler_laws.specs.Quieting.{AllSchedulersUphold, AreSchedulersIdle}
use Rattle.pt_scheduler_laws.specs.Schedulers.{EachSchedulerGoesOn}

-- each supervisor of the scheduler spawns all its children, and so does each one that waits to enter it
abbrev pub SchedulerHere : Scheduler → Type 0
SchedulerHere t = CrewHere boss_part (crew_of t)

-- so it is of each scheduler
abbrev pub SchedulersHere : List Scheduler → Type 0
SchedulersHere schedulers =
    (d : ℕ) (t : Scheduler) → d < length schedulers → SchedulerHere (slice_index_or schedulers d t)

-- none of these children is to be on another desk
abbrev pub NoneElsewhere : List ChildSpec → Type 0
NoneElsewhere children =
    (place : ℕ) (child : ChildSpec) → slice_get children place ≡ Some child → child.elsewhere ≡ false

abbrev pub KeepsHere : Scheduler → Scheduler → Type 0
KeepsHere old new = SchedulerHere old → SchedulerHere new

-- so it is of what a supervisor is asked, whatever it returns
abbrev pub AsksHere : {A : Type 0} → (Result A ChildFault → Supervisor Plan → Supervisor Plan → Type 0) → Type 0
AsksHere {A} asks =
    (p : Pid) (answer : Option (Result A ChildFault)) (old new : Scheduler) → AsksBoss p asks answer old new
    → KeepsHere old new

-- what a call does in a step, by what its contract says
pub record StepStaysHere : Type 0 where
  pub begin_step : (old new : Scheduler) (d : ShardState) → BeginsStep (crew_of old) d (crew_of new) → KeepsHere old new
  pub pull : (old new : Scheduler) (d e : ShardState) (job : Option Job) → Pulls old d job new e → KeepsHere old new
  pub fill : (jobs later : List Job) (old new : Scheduler) (d e : ShardState) (count : ℕ)
      → Fills jobs old d count later new e → KeepsHere old new
  pub end_step : (old new : Scheduler) (d : ShardState) → EndsStep (crew_of old) d (crew_of new) → KeepsHere old new
  pub answer : (p : Pid) (next : Next) (old new : Scheduler) → IsAnswered p next (crew_of old) (crew_of new)
      → KeepsHere old new
  pub note_loss : (loss : Loss) (old new : Scheduler) → NotesLoss loss old new → KeepsHere old new
  -- what is refused, and what changes no role and nobody who waits to enter, as `set_time` and `begin_again`
  pub refused : (old new : Scheduler) → IsSame (crew_of old) (crew_of new) → KeepsHere old new
  pub others : (old new : Scheduler) → AreSame (roles (crew_of old)) (roles (crew_of new))
      → waiting (crew_of new) ≡ waiting (crew_of old) → KeepsHere old new
  pub go_on : (past : List Stamped) (old new : Scheduler) → SchedulerGoesOn past old new → KeepsHere old new

-- what a call does by which a process or a supervisor comes in
pub record EntryStaysHere : Type 0 where
  pub nobody : (t : Scheduler) → ((p : Pid) → roles (crew_of t) p ≡ None) → waiting (crew_of t) ≡ [] → SchedulerHere t
  pub spawn : (tag : ℕ) (first : Next) (old new : Scheduler) (d e : ShardState) (result : Result Pid Fault)
      → Enters (new_member tag None) first (crew_of old) d result (crew_of new) e → KeepsHere old new
  pub spawn_child : (parent : Pid) (linked : Bool) (tag : ℕ) (first : Next) (old new : Scheduler) (d e : ShardState)
      (result : Result Pid Fault)
      → EntersChild parent linked (new_member tag None) first (crew_of old) d result (crew_of new) e
      → KeepsHere old new
  pub spawn_supervisor : (tag : ℕ) (spec : SupervisorSpec) (children : List ChildSpec) (old new : Scheduler)
      (d e : ShardState) (result : Result Pid Fault) → NoneElsewhere children
      → SpawnsBoss tag spec children (crew_of old) d result (crew_of new) e → KeepsHere old new
  pub supervise : (p : Pid) (spec : SupervisorSpec) (children : List ChildSpec) (old new : Scheduler)
      → NoneElsewhere children → BecomesBoss p spec children old new → KeepsHere old new

-- what a supervisor makes of a call about its children
pub record ChildrenStayHere : Type 0 where
  pub start_child : (child : ChildSpec) → child.elsewhere ≡ false → AsksHere (λ r old new. BossStarts child old r new)
  pub terminate_child : (id : ℕ) → AsksHere (λ r old new. BossTerminates id old r new)
  pub restart_child : (id : ℕ) → AsksHere (λ r old new. BossRestarts id old r new)
  pub delete_child : (id : ℕ) → AsksHere (λ r old new. BossDeletes id old r new)
  pub child_to_start : AsksHere (λ r old new. BossAsksProgram old r new)
  pub child_started : (id : ℕ) (child : Pid) → AsksHere (λ r old new. BossAnswersStarted id child old r new)
  pub child_not_started : (id : ℕ) (fault : Fault) → AsksHere (λ r old new. BossAnswersNotStarted id fault old r new)

-- behind a pause, too
abbrev pub SchedulersStayHere : Type 0
SchedulersStayHere =
    (merged : List Stamped) (schedulers later : List Scheduler) → EachSchedulerGoesOn merged schedulers later
    → SchedulersHere schedulers → SchedulersHere later

-- Where no scheduler of a node has anything to do, and the node is gathered with its desks as they were, and is still, each
-- child that its supervisor wants alive lives, or took its link away itself; unless the supervisor is ending one that traps
-- exits and lives on.
abbrev pub SchedulersHereLive : Type 0
SchedulersHereLive =
    (past : Past) (schedulers : List Scheduler) (desks : List DeskState) (g : GatheredState)
    → AllSchedulersUphold past schedulers desks → AreSchedulersIdle schedulers desks → g.shards ≡ all_shards desks → IsGathered g → IsStillNode g
    → SchedulersHere schedulers → AllHereLive past boss_part (map crew_of schedulers) g
