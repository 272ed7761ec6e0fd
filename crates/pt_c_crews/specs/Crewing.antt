-- What the calls of a crew answer C, and what they leave.
use Rattle.std.specs.Prelude.{◌≡◌, ◌≢◌, ◌⊎◌, ℕ, ◌+◌, Bool, true, false, List, [], ◌∷◌, ◌++◌, length, map, take, drop, slice_set, slice_get}
use Rattle.std.specs.Prelude.{Option, Some, None, Result}
use Rattle.pt_signal.specs.declared.pid.Pid.{Pid}
use Rattle.pt_events.specs.History.{Past}
use Rattle.pt_shard.specs.declared.fault.Fault.{Fault}
use Rattle.pt_shard.specs.declared.loss.Loss.{Loss}
use Rattle.pt_shard.specs.ShardState.{ShardState}
use Rattle.pt_desk.specs.declared.turned.Turned.{Turned}
use Rattle.pt_desk.specs.DeskState.{DeskState, GoesOn}
use Rattle.pt_desk.specs.Turns.{Turns}
use Rattle.pt_behaviour.specs.declared.behaviour.Next.{Next}
use Rattle.pt_crew.specs.Waking.{IsAwake}
use Rattle.pt_crew.specs.Visiting.{AreSame}
use Rattle.pt_crew.specs.Crews.{AreBorn, Enters, IsNextTime, IsSame, KeepsRest, members, queue, roles, time_of, IsIdle}
use Rattle.pt_crew.specs.Running.{is_idle}
use Rattle.pt_crew.specs.Stepping.{BeginsStep, EndsStep, EntersChild, IsAnswered, QueueIsLonger, is_running}
use Rattle.pt_children.specs.declared.children.Child.{Child}
use Rattle.pt_scheduler.specs.declared.member.Job.{Job}
use Rattle.pt_children.specs.declared.spec.ChildSpec.{ChildSpec}
use Rattle.pt_children.specs.declared.spec.SupervisorSpec.{SupervisorSpec}
use Rattle.pt_scheduler.specs.declared.scheduler.Scheduler.{Scheduler}
use Rattle.pt_scheduler.specs.Owning.{desk_after, desk_of}
use Rattle.pt_scheduler.specs.Scheduling.{AreAllQueued, SchedulerAttends, BecomesBoss, Fills, IsNoBoss, NoneNoted, NotesLoss, SpawnsBoss}
use Rattle.pt_scheduler.specs.Scheduling.{Pulls, SchedulerUpholds, children_seen, member_views, new_member, crew_of}
use Rattle.pt_c_values.specs.declared.types.PtAnswer.{PtAnswer}
use Rattle.pt_c_values.specs.declared.types.PtNext.{PtNext}
use Rattle.pt_c_values.specs.declared.types.PtPid.{PtPid}
use Rattle.pt_c_values.specs.declared.types.PtTurned.{PtTurned}
use Rattle.pt_c_values.specs.Codes.{GivesCode, IfCrosses, IfOwn, not_running, some_code}
use Rattle.pt_c_values.specs.Crossing.{loss_numbered, pid_crossed, pid_out, turned_out}
use Rattle.pt_c_tools.specs.Nexts.{next_in}
use Rattle.pt_c_values.specs.Places.{ShowsCode}
use Rattle.pt_c_values.specs.declared.types.PtChild.{PtChild}
use Rattle.pt_c_values.specs.declared.types.PtChildSpec.{PtChildSpec}
use Rattle.pt_c_values.specs.declared.types.PtJob.{PtJob}
use Rattle.pt_c_values.specs.declared.types.PtSupervisorSpec.{PtSupervisorSpec}
use Rattle.pt_c_tools.specs.CrossingChildren.{child_out, children_in, spec_in}
use Rattle.pt_c_crews.specs.Crossing.{job_out}
use Rattle.pt_c_crews.specs.Owning.{is_own}

-- spawning -------------------------------------------------------------------------------

-- A process is spawned as P allows. The crew is that of the desk then, if it succeeded.
abbrev pub SpawnsAs : ℕ → PtPid → PtPid → (Result Pid Fault → Type 0) → Scheduler → DeskState → Scheduler → Type 0
SpawnsAs code before after P old d new =
    GivesCode code before after pid_out (λ r. P r × (desk_of new ≡ desk_after r d.shard.number (desk_of old)))

-- what each call over a crew and its desk keeps
abbrev pub StaysWithDesk : Scheduler → DeskState → Scheduler → DeskState → Type 0
StaysWithDesk old d new e = (SchedulerAttends old d.shard → SchedulerAttends new e.shard) × GoesOn d e

-- its supervisors uphold what the theorems on children need
abbrev pub StillUpholds : Scheduler → DeskState → Scheduler → DeskState → Type 0
StillUpholds old d new e = (past : Past) → SchedulerUpholds past old d.shard → SchedulerUpholds past new e.shard

abbrev pub SpawnsInCrew : ℕ → PtNext → ℕ → PtPid → PtPid → Scheduler → DeskState → Scheduler → DeskState → Type 0
SpawnsInCrew tag first code before after old d new e =
    IfCrosses (next_in first) code ((new ≡ old) × (e ≡ d) × (after ≡ before))
    (λ next. IfOwn (is_own old d) code ((new ≡ old) × (e ≡ d) × (after ≡ before))
    (SpawnsAs code before after
    (λ r. Enters (new_member tag None) next (crew_of old) d.shard r (crew_of new) e.shard) old d new
    × StaysWithDesk old d new e × StillUpholds old d new e))

-- so, once what is passed in and the desk fit
abbrev pub SpawnsChildNext : Pid → Bool → ℕ → ℕ → PtPid → PtPid → Scheduler → DeskState → Scheduler → DeskState → Next → Type 0
SpawnsChildNext parent linked tag code before after old d new e next =
    SpawnsAs code before after
    (λ r. EntersChild parent linked (new_member tag None) next (crew_of old) d.shard r (crew_of new) e.shard) old d new
    × StaysWithDesk old d new e
    × ((past : Past) → IsNoBoss old parent → SchedulerUpholds past old d.shard → SchedulerUpholds past new e.shard)

abbrev pub SpawnsChildInCrew : Pid → Bool → ℕ → PtNext → ℕ → PtPid → PtPid → Scheduler → DeskState → Scheduler → DeskState
    → Type 0
SpawnsChildInCrew parent linked tag first code before after old d new e =
    IfCrosses (next_in first) code ((new ≡ old) × (e ≡ d) × (after ≡ before))
    (λ next. IfOwn (is_own old d) code ((new ≡ old) × (e ≡ d) × (after ≡ before))
    (SpawnsChildNext parent linked tag code before after old d new e next))

-- so, once what is passed in and the desk fit
abbrev pub SpawnsBossOf : ℕ → ℕ → PtPid → PtPid → Scheduler → DeskState → Scheduler → DeskState → SupervisorSpec → List ChildSpec
    → Type 0
SpawnsBossOf tag code before after old d new e known kids =
    SpawnsAs code before after
    (λ r. SpawnsBoss tag known kids (crew_of old) d.shard r (crew_of new) e.shard) old d new
    × StaysWithDesk old d new e × StillUpholds old d new e

-- a supervisor is spawned, if each code of it and of its children is one of its enumeration
abbrev pub SpawnsBossInCrew : ℕ → PtSupervisorSpec → List PtChildSpec → ℕ → PtPid → PtPid → Scheduler → DeskState → Scheduler
    → DeskState → Type 0
SpawnsBossInCrew tag spec children code before after old d new e =
    IfCrosses (spec_in spec) code ((new ≡ old) × (e ≡ d) × (after ≡ before))
    (λ known. IfCrosses (children_in children) code ((new ≡ old) × (e ≡ d) × (after ≡ before))
    (λ kids. IfOwn (is_own old d) code ((new ≡ old) × (e ≡ d) × (after ≡ before))
    (SpawnsBossOf tag code before after old d new e known kids)))

-- a step ---------------------------------------------------------------------------------

-- The first of the queue is come to. What it is told stands at that place then, if it is told anything.
abbrev pub WritesRow : ℕ → List PtJob → Option Job → ℕ → List PtJob → Type 0
WritesRow place jobs None count later = (count ≡ place) × (later ≡ jobs)
WritesRow place jobs (Some job) count later =
    (count ≡ place + 1) × (later ≡ slice_set jobs place (job_out job))

abbrev pub PullsRow : ℕ → List PtJob → Scheduler → ShardState → ℕ → List PtJob → Scheduler → ShardState → Type 0
PullsRow place jobs old d count later new e =
    (job : Option Job) × Pulls old d job new e × WritesRow place jobs job count later

-- It is filled as a row of as many jobs is: each process that stands in the queue is come to once, in order, until the
-- row is full. What they are told stands in front of the row, each job as its struct, and what stood behind stays.
pub record HandsOutRow (jobs : List PtJob) (old : Scheduler) (d : ShardState) (count : ℕ) (later : List PtJob)
    (new : Scheduler) (e : ShardState) : Type 0 where
  pub before : List Job
  pub after : List Job
  pub as_many : length before ≡ length jobs
  pub fills : Fills before old d count after new e
  pub wrote : later ≡ map job_out (take count after) ++ drop count jobs

-- a turn of the desk; then what is new is read, jobs are handed out, and what is new since then is read
pub record CrewSteps (budget : ℕ) (jobs : List PtJob) (old : Scheduler) (d : DeskState) (out : PtTurned) (count : ℕ)
    (later : List PtJob) (new : Scheduler) (e : DeskState) : Type 0 where
  pub turned : Turned
  pub turned_is : out ≡ turned_out turned
  pub mid : DeskState
  pub turns : Turns budget d turned mid
  pub begun : Scheduler
  pub begins : BeginsStep (crew_of old) mid.shard (crew_of begun)
  pub filled : Scheduler
  pub fills : SchedulerAttends old d.shard → HandsOutRow jobs begun mid.shard count later filled e.shard
  pub ends : EndsStep (crew_of filled) e.shard (crew_of new)
  pub attends : SchedulerAttends old d.shard → SchedulerAttends new e.shard
  pub upholds : (past : Past) → SchedulerAttends old d.shard → SchedulerUpholds past old d.shard → SchedulerUpholds past new e.shard
  -- no wake-up is lost
  pub awake : SchedulerAttends old d.shard → IsAwake (members (crew_of new)) (queue (crew_of new)) e.shard
  pub time : time_of (crew_of new) ≡ time_of (crew_of old)
  -- the crew is the desk's then
  pub desk : desk_of new ≡ Some d.shard.number
  pub goes_on : GoesOn d e

-- answers --------------------------------------------------------------------------------

-- what a call keeps of a crew that stays with the same desk
pub record KeepsCrew (old new : Scheduler) : Type 0 where
  pub attends : (d : ShardState) → SchedulerAttends old d → SchedulerAttends new d
  pub upholds : (past : Past) (d : ShardState) → SchedulerUpholds past old d → SchedulerUpholds past new d
  pub desk : desk_of new ≡ desk_of old

-- Nothing has changed if it is refused. There is memory for it if the crew is one of a desk.
pub record AnswersNext (p : Pid) (next : Next) (code : ℕ) (old new : Scheduler) : Type 0 where
  pub does : ((code ≡ 0) × IsAnswered p next (crew_of old) (crew_of new))
      ⊎ ((code ≡ not_running) × (is_running (roles (crew_of old) p) ≡ false) × IsSame (crew_of old) (crew_of new))
      ⊎ ((code ≡ 2) × IsSame (crew_of old) (crew_of new))
  pub memory : (d : ShardState) → SchedulerAttends old d → code ≢ 2
  pub desk : desk_of new ≡ desk_of old

abbrev pub AnswersOne : PtAnswer → ℕ → Scheduler → Scheduler → Type 0
AnswersOne a code old new =
    IfCrosses (next_in a.next) code (new ≡ old) (λ next. AnswersNext (pid_crossed a.pid) next code old new)

-- all of these were taken, one after the other
abbrev pub AnswersAll : List PtAnswer → Scheduler → Scheduler → Type 0
AnswersAll [] old new = new ≡ old
AnswersAll (a ∷ answers) old new = (mid : Scheduler) × AnswersOne a 0 old mid × AnswersAll answers mid new

-- the one in front was refused, with this code
abbrev pub RefusesFirst : List PtAnswer → ℕ → Scheduler → Scheduler → Type 0
RefusesFirst [] code old new = (code ≡ 0) × (new ≡ old)
RefusesFirst (a ∷ answers) code old new = (code ≢ 0) × AnswersOne a code old new

-- so many in front were taken, and the one behind them was refused, if there is one
pub record TakesAnswers (answers : List PtAnswer) (code taken : ℕ) (old new : Scheduler) : Type 0 where
  pub done : List PtAnswer
  pub rest : List PtAnswer
  pub all : answers ≡ done ++ rest
  pub count : taken ≡ length done
  pub mid : Scheduler
  pub took : AnswersAll done old mid
  pub refused : RefusesFirst rest code mid new

-- A running process is a supervisor from now on; or nothing has changed, where it is not running or there was no memory.
pub record SupervisesAs (p : Pid) (spec : SupervisorSpec) (children : List ChildSpec) (code : ℕ) (old new : Scheduler) : Type 0 where
  pub does : ((code ≡ 0) × BecomesBoss p spec children old new)
      ⊎ ((code ≡ not_running) × (is_running (roles (crew_of old) p) ≡ false) × IsSame (crew_of old) (crew_of new))
      ⊎ ((code ≡ 2) × IsSame (crew_of old) (crew_of new))
  pub keeps : KeepsCrew old new

abbrev pub CrewSupervises : Pid → PtSupervisorSpec → List PtChildSpec → ℕ → Scheduler → Scheduler → Type 0
CrewSupervises p spec children code old new =
    IfCrosses (spec_in spec) code (new ≡ old)
    (λ known. IfCrosses (children_in children) code (new ≡ old) (λ kids. SupervisesAs p known kids code old new))

-- losses ---------------------------------------------------------------------------------

-- what a loss tells is noted, if there is one
abbrev pub NotesIfAny : Option Loss → Scheduler → Scheduler → Type 0
NotesIfAny None old new = new ≡ old
NotesIfAny (Some l) old new = NotesLoss l old new

pub record CrewNotes (loss : Option Loss) (code : ℕ) (old new : Scheduler) : Type 0 where
  pub told : code ≡ some_code loss
  pub notes : NotesIfAny loss old new
  pub keeps : KeepsCrew old new

-- so, if the desk is the crew's own
abbrev pub NotesIfOwn : ℕ → ℕ → Scheduler → DeskState → Scheduler → Type 0
NotesIfOwn place code old d new = IfOwn (is_own old d) code (new ≡ old) (CrewNotes (loss_numbered d place) code old new)

-- going on, and what is read -------------------------------------------------------------

-- The crew continues over the desk of the same number in a node that was resumed: each process is in the queue, and does
-- next what it was to do.
pub record CrewBeginsAgain (code : ℕ) (old new : Scheduler) : Type 0 where
  pub either : (code ≡ 0) ⊎ (code ≡ 2)
  pub all : code ≡ 0 → AreAllQueued (crew_of new)
  pub attends : code ≡ 0 → (d e : ShardState) → SchedulerAttends old d → NoneNoted old → AreBorn (roles (crew_of old)) e
      → SchedulerAttends new e
  -- there is memory for it if the crew is one of a desk
  pub done : (d : ShardState) → SchedulerAttends old d → code ≡ 0
  pub roles : AreSame (roles (crew_of old)) (roles (crew_of new))
  pub longer : QueueIsLonger (queue (crew_of old)) (queue (crew_of new))
  pub rest : KeepsRest (crew_of old) (crew_of new)
  pub desk : desk_of new ≡ desk_of old

-- whether nobody is in the queue, and all was read; then nobody has anything to do, and each exit was told
pub record TellsIdle (t : Scheduler) (d : DeskState) (yes : Bool) : Type 0 where
  pub is : yes ≡ is_idle (crew_of t) d.shard
  pub quiet : yes ≡ true → SchedulerAttends t d.shard → IsIdle (crew_of t) d.shard
  pub told : yes ≡ true → SchedulerAttends t d.shard → NoneNoted t

-- so, if the desk is the crew's own
abbrev pub CrewTells : ℕ → Scheduler → DeskState → Bool → Bool → Type 0
CrewTells code t d before after = IfOwn (is_own t d) code (after ≡ before) ((code ≡ 0) × TellsIdle t d after)

abbrev pub TellsTime : Scheduler → ℕ → ℕ → ℕ → Type 0
TellsTime t code before after =
    (time : Option ℕ) × ((d : ShardState) → SchedulerAttends t d → IsNextTime (crew_of t) time)
    × ShowsCode code before after (λ t. t) time

-- the child at a place of a supervisor
abbrev pub child_in_place : Option (List Child) → ℕ → Option Child
child_in_place None place = None
child_in_place (Some children) place = slice_get children place

-- the number of the children of a supervisor
abbrev pub TellsChildCount : Scheduler → Pid → ℕ → ℕ → ℕ → Type 0
TellsChildCount t p code before after = ShowsCode code before after (λ (cs : List Child). length cs) (children_seen (member_views t p))

-- its child at a place
abbrev pub TellsChild : Scheduler → Pid → ℕ → ℕ → PtChild → PtChild → Type 0
TellsChild t p place code before after =
    ShowsCode code before after child_out (child_in_place (children_seen (member_views t p)) place)
