-- What the parts of a pull do. No public clause cites this module.
use Rattle.std.specs.Prelude.{◌≡◌, ◌+◌, ◌≤◌, ℕ, List, [], length, slice_set, Option, Some, None}
use Rattle.std.specs.Option.{option_map}
use Rattle.pt_signal.specs.declared.pid.Pid.{Pid}
use Rattle.pt_signal.specs.declared.reason.Reason.{Reason}
use Rattle.pt_events.specs.declared.event.Event.{Event}
use Rattle.pt_events.specs.declared.event.Stamped.{Stamped}
use Rattle.pt_shard.specs.ShardState.{ShardState}
use Rattle.pt_behaviour.specs.declared.behaviour.Next.{Next}
use Rattle.pt_crew.specs.Visiting.{AreSame, AreWith}
use Rattle.pt_crew.specs.Crews.{Attends, KeepsRest, left, queue, roles, time_of, waiting, was_refused}
use Rattle.pt_supervisor.specs.declared.supervisor.Supervisor.{Supervisor}
use Rattle.pt_scheduler.specs.declared.member.Member.{Member}
use Rattle.pt_scheduler.specs.declared.member.Notes.{Notes}
use Rattle.pt_scheduler.specs.declared.member.Job.{Job}
use Rattle.pt_scheduler.specs.declared.plan.Plan.{Plan}
use Rattle.pt_scheduler.specs.declared.scheduler.Scheduler.{Scheduler}
use Rattle.pt_scheduler.specs.Exits.{exit_by, exit_in}
use Rattle.pt_scheduler.specs.Scheduling.{SameViews, SchedulerAttends, Pulls, new_member}

-- all exits of the journal were noted, and nothing else has changed
pub record IsAllNoted (old : Scheduler) (d : ShardState) (new : Scheduler) : Type 0 where
  pub attends : SchedulerAttends new d
  pub all : length d.journal ≤ new.read
  pub views : SameViews old new
  pub queue : queue new.crew ≡ queue old.crew
  pub rest : KeepsRest old.crew new.crew

-- the exit was noted, if the event is one
pub record NotesExit (event : Event) (old new : Scheduler) : Type 0 where
  pub members : (q : Pid) (b : Member) (n : Next) → roles new.crew q ≡ Some (b, n)
      → (was : Member) × (roles old.crew q ≡ Some (was, n))
      × (b ≡ record was { notes = record (was.notes) { ended = exit_by q event was.notes.ended } })
  pub views : SameViews old new
  pub read : new.read ≡ old.read
  pub desk : new.desk ≡ old.desk
  pub queue : queue new.crew ≡ queue old.crew
  pub rest : KeepsRest old.crew new.crew
  pub attends : (d : ShardState) → Attends old.crew d → Attends new.crew d

-- all else of the crew stays
pub record StaysElse (old new : Scheduler) : Type 0 where
  pub read : new.read ≡ old.read
  pub desk : new.desk ≡ old.desk
  pub queue : queue new.crew ≡ queue old.crew
  pub rest : KeepsRest old.crew new.crew
  pub attends : (d : ShardState) → Attends old.crew d → Attends new.crew d

-- p is out of its place, in which one stands of which nothing is known
abbrev pub TakesMember : Pid → Scheduler → Option Member → Scheduler → Type 0
TakesMember p old None new = (roles old.crew p ≡ None) × AreSame (roles old.crew) (roles new.crew)
TakesMember p old (Some was) new =
    (n : Next) × (roles old.crew p ≡ Some (was, n)) × AreWith p (Some (new_member 0 None, n)) (roles old.crew) (roles new.crew)

-- p is this member, if it is one of these
pub record SetsMember (p : Pid) (b : Member) (old new : Scheduler) : Type 0 where
  pub set : (was : Member) (n : Next) → roles old.crew p ≡ Some (was, n) → AreWith p (Some (b, n)) (roles old.crew) (roles new.crew)
  pub none : roles old.crew p ≡ None → AreSame (roles old.crew) (roles new.crew)

-- this is known of p, if it is one of these
pub record SetsNotes (p : Pid) (notes : Notes) (old new : Scheduler) : Type 0 where
  pub set : (was : Member) (n : Next) → roles old.crew p ≡ Some (was, n)
      → AreWith p (Some (record was { notes = notes }, n)) (roles old.crew) (roles new.crew)
  pub none : roles old.crew p ≡ None → AreSame (roles old.crew) (roles new.crew)

-- p is this supervisor, if it is one of these
pub record SetsBoss (p : Pid) (boss : Supervisor Plan) (old new : Scheduler) : Type 0 where
  pub set : (was : Member) (n : Next) → roles old.crew p ≡ Some (was, n)
      → AreWith p (Some (record was { boss = Some boss }, n)) (roles old.crew) (roles new.crew)
  pub none : roles old.crew p ≡ None → AreSame (roles old.crew) (roles new.crew)

-- those who left are forgotten, and nothing else
pub record DropsLeft (old new : Scheduler) : Type 0 where
  pub roles : AreSame (roles old.crew) (roles new.crew)
  pub left : left new.crew ≡ []
  pub waiting : waiting new.crew ≡ waiting old.crew
  pub queue : queue new.crew ≡ queue old.crew
  pub refused : was_refused new.crew ≡ was_refused old.crew
  pub time : time_of new.crew ≡ time_of old.crew
  pub read : new.read ≡ old.read
  pub desk : new.desk ≡ old.desk
  pub attends : (d : ShardState) → Attends old.crew d → Attends new.crew d

-- a job stands at that place then, if there was one
abbrev pub WritesJob : ℕ → List Job → Option Job → ℕ → List Job → Type 0
WritesJob place jobs None count later = (count ≡ place) × (later ≡ jobs)
WritesJob place jobs (Some job) count later = (count ≡ place + 1) × (later ≡ slice_set jobs place job)

abbrev pub PullsInto : ℕ → List Job → Scheduler → ShardState → ℕ → List Job → Scheduler → ShardState → Type 0
PullsInto place jobs old d count later new e =
    (job : Option Job) × Pulls old d job new e × WritesJob place jobs job count later

-- a member whose process exited with this reason, if there is one: it has it as one that a loss told
abbrev pub member_kept : Option Reason → Member → Member
member_kept (Some r) b = record b { notes = record (b.notes) { ended = None; lost = Some r } }
member_kept None b = b

abbrev pub member_role_kept : Option Reason → Member × Next → Member × Next
member_role_kept ended r = (member_kept ended r.0, r.1)

-- so it is with each member, and all else stays
pub record KeepsBy (ended : Pid → Option Reason) (old new : Scheduler) : Type 0 where
  pub members : (q : Pid) → roles new.crew q ≡ option_map (member_role_kept (ended q)) (roles old.crew q)
  pub desk : new.desk ≡ old.desk
  pub queue : queue new.crew ≡ queue old.crew
  pub rest : KeepsRest old.crew new.crew
  pub attends : (d : ShardState) → Attends old.crew d → Attends new.crew d

-- the exit is kept, if the event is one
abbrev pub KeepsExit : Event → Scheduler → Scheduler → Type 0
KeepsExit event old new = KeepsBy (λ q. exit_by q event None) old new

-- so is each exit of a history, whose newest event is in front
abbrev pub KeepsExits : List Stamped → Scheduler → Scheduler → Type 0
KeepsExits past old new = KeepsBy (λ q. exit_in q past) old new
