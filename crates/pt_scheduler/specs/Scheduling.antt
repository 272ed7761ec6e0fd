-- What is told of the processes of a scheduler, and what its supervisors do.
use Rattle.std.specs.Prelude.{◌≡◌, ◌⊎◌, ⊤, ℕ, ◌<◌, cond, map, Bool, true, false, List, [], ◌∷◌, ◌++◌, length, drop, Option, Some, None, Result, Ok, Err}
use Rattle.std.specs.List.{IsDistinct}
use Rattle.std.specs.Option.{option_map}
use Rattle.pt_signal.specs.declared.pid.Pid.{Pid}
use Rattle.pt_signal.specs.declared.item.Item.{Item}
use Rattle.pt_signal.specs.declared.reason.Reason.{Reason}
use Rattle.pt_signal.specs.Values.{same_pid}
use Rattle.pt_events.specs.History.{Past}
use Rattle.pt_events.specs.declared.event.Event.TheVariants.{Left}
use Rattle.pt_events.specs.declared.event.Stamped.{Stamped}
use Rattle.pt_shard.specs.declared.fault.Fault.{Fault}
use Rattle.pt_shard.specs.declared.fault.Fault.TheVariants.{Memory}
use Rattle.pt_shard.specs.Calls.{Bears, first_match}
use Rattle.pt_shard.specs.declared.loss.Loss.{Loss}
use Rattle.pt_shard.specs.declared.loss.Loss.TheVariants.{Exited, Stray}
use Rattle.pt_shard.specs.ShardState.{ShardState, lives, phase_of, shard_after}
use Rattle.pt_behaviour.specs.declared.behaviour.Next.{Next}
use Rattle.pt_behaviour.specs.declared.behaviour.Next.TheVariants.{Wait, WaitUntil, Proceed, Running, Stop}
use Rattle.pt_behaviour.specs.declared.births.Role.{Role}
use Rattle.pt_crew.specs.declared.crew.Crew.{Crew}
use Rattle.pt_crew.specs.declared.crew.Member.{Member as Place}
use Rattle.pt_behaviour.specs.Behaving.{takes}
use Rattle.pt_crew.specs.Visiting.{AreSame, AreWith, again_as, handed_as}
use Rattle.pt_crew.specs.Handing.{MayBeHanded, item_handed}
use Rattle.pt_crew.specs.Waking.{is_queued}
use Rattle.pt_behaviour.specs.Upholding.{IsLeftAlone, ItemIsTaken}
use Rattle.pt_crew.specs.Upholding.{StandsStill, Upholds}
use Rattle.pt_crew.specs.Crews.{AreBorn, Attends, Enters, IsSame, KeepsRest, members, queue, roles, time_of, waiting, was_refused}
use Rattle.pt_crew.specs.Stepping.{QueueIsLonger}
use Rattle.pt_children.specs.declared.children.Child.{Child}
use Rattle.pt_supervisor.specs.declared.supervisor.Supervisor.{Supervisor}
use Rattle.pt_supervisor.specs.Hearing.{program_of, standing}
use Rattle.pt_supervisor.specs.Keeping.{Keeps}
use Rattle.pt_scheduler.specs.declared.member.Member.{Member}
use Rattle.pt_scheduler.specs.declared.member.What.TheVariants.{Exit}
use Rattle.pt_scheduler.specs.declared.member.Job.{Job}
use Rattle.pt_children.specs.declared.spec.ChildSpec.{ChildSpec}
use Rattle.pt_scheduler.specs.declared.plan.Origin.{Origin}
use Rattle.pt_scheduler.specs.declared.plan.Plan.{Plan}
use Rattle.pt_children.specs.declared.spec.SupervisorSpec.{SupervisorSpec}
use Rattle.pt_scheduler.specs.declared.scheduler.Scheduler.{Scheduler}
use Rattle.pt_scheduler.specs.Exits.{HasExitsOf, exit_in, exit_reason, reason_kept}
use Rattle.pt_children.specs.Specifying.{begun_as}
use Rattle.pt_scheduler.specs.Planning.{post_as, posts_of}
use Rattle.pt_scheduler.specs.Members.{BossHandles, boss_part, what_of}

-- the crew of a scheduler
abbrev pub crew_of : Scheduler → Crew Member
crew_of t = t.crew

-- what a process is that begins
abbrev pub new_member : ℕ → Option (Supervisor Plan) → Member
new_member tag boss = record {
  tag = tag;
  origin = None;
  notes = record { begun = false; ended = None; lost = None };
  boss = boss;
}

-- a supervisor of these children that has started nobody
pub record IsNewBoss (spec : SupervisorSpec) (children : List ChildSpec) (boss : Supervisor Plan) : Type 0 where
  pub stands : standing boss ≡ begun_as spec children
  pub posts : posts_of (program_of boss) ≡ map post_as children

-- what is known of a process: its tag, who started it, whether it was told anything, what it does next, the reason of its
-- exit that a loss told, and the supervisor that it is
pub record MemberView : Type 0 where
  pub tag : ℕ
  pub origin : Option Origin
  pub begun : Bool
  pub next : Next
  pub lost : Option Reason
  pub boss : Option (Supervisor Plan)

abbrev pub member_view : Member × Next → MemberView
member_view r = record {
  tag = r.0.tag;
  origin = r.0.origin;
  begun = r.0.notes.begun;
  next = r.1;
  lost = r.0.notes.lost;
  boss = r.0.boss;
}

abbrev pub member_views : Scheduler → Pid → Option MemberView
member_views t p = option_map member_view (roles t.crew p)

-- the children of the supervisor that a process is, if it is one
abbrev pub children_seen : Option MemberView → Option (List Child)
children_seen None = None
children_seen (Some v) = option_map (λ s. (standing s).children) v.boss

abbrev pub SameViews : Scheduler → Scheduler → Type 0
SameViews old new = (q : Pid) → member_views new q ≡ member_views old q

-- p is so, or gone, and all others stay
abbrev pub AreViewed : Pid → Option MemberView → Scheduler → Scheduler → Type 0
AreViewed p view old new = (q : Pid) → member_views new q ≡ cond (same_pid p q) view (member_views old q)

-- Of no process an exit was noted that it has not been told. So it is where nobody stands in the queue after a step.
abbrev pub NoneNoted : Scheduler → Type 0
NoneNoted t = (p : Pid) (b : Member) (n : Next) → roles t.crew p ≡ Some (b, n) → b.notes.ended ≡ None

-- a loss told that p exited with this reason; if p is none of these, nothing has changed
pub record NotesLost (p : Pid) (r : Reason) (old new : Scheduler) : Type 0 where
  pub views : (q : Pid)
      → member_views new q
      ≡ cond (same_pid p q) (option_map (λ (v : MemberView). record v { lost = Some r }) (member_views old q)) (member_views old q)
  pub queue : queue new.crew ≡ queue old.crew
  pub rest : KeepsRest old.crew new.crew

-- a message that came too late says nothing of an exit
abbrev pub NotesLoss : Loss → Scheduler → Scheduler → Type 0
NotesLoss (Exited p r items) old new = NotesLost p r old new
NotesLoss (Stray p item) old new = new ≡ old

-- Of the journal, `seen` was read. Each member has the reason with which it left in it.
pub record Noted (t : Scheduler) (d : ShardState) : Type 0 where
  pub more : List Stamped
  pub seen : List Stamped
  pub journal : d.journal ≡ more ++ seen
  pub counted : length seen ≡ t.read
  pub ends : (p : Pid) (b : Member) (n : Next) → roles t.crew p ≡ Some (b, n) → b.notes.ended ≡ exit_in p seen

-- of those who wait to enter no exit is known yet
abbrev pub AreUntold : List (Role Member) → Type 0
AreUntold [] = ⊤
AreUntold (r ∷ rs) = (r.behaviour.notes.ended ≡ None) × AreUntold rs

-- The scheduler is one of this desk. It is so as it is made, and each call leaves it so.
pub record SchedulerAttends (t : Scheduler) (d : ShardState) : Type 0 where
  pub crew : Attends t.crew d
  pub fresh : AreUntold (waiting t.crew)
  pub noted : Noted t d

-- the supervisors of the scheduler uphold what the theorems on children need, after what happened on their node before
abbrev pub SchedulerUpholds : Past → Scheduler → ShardState → Type 0
SchedulerUpholds past t d = Upholds (Keeps past boss_part) t.crew d

-- p lived and was to stop with this reason, and has exited so; or it had exited before, and nothing was done
abbrev pub HasExited : Pid → Next → ShardState → ShardState → Type 0
HasExited p next d e =
    ((lives d p ≡ false) × (e ≡ d))
    ⊎ ((r : Reason) × (next ≡ Stop r) × (lives d p ≡ true) × (e ≡ shard_after (Left p r) d))

-- p lives, and has nothing to do at that time: it is running, or waits for a pick that no item fits, and not until a time
-- that has come
abbrev pub HasNothing : ℕ → Pid → Next → ShardState → Type 0
HasNothing time p (Wait pick) d = (lives d p ≡ true) × (first_match d p pick ≡ None)
HasNothing time p (WaitUntil pick at) d = (lives d p ≡ true) × (first_match d p pick ≡ None) × (time < at)
HasNothing time p Running d = lives d p ≡ true
HasNothing time p Proceed d = ⊥
HasNothing time p (Stop r) d = ⊥

-- p is told what it was handed, and is running then: the first item in its mailbox that its pick fits, or none. That item
-- was taken out of its mailbox, and nothing else was done on the desk.
pub record HandsOut (p : Pid) (old : Scheduler) (d : ShardState) (job : Job) (new : Scheduler) (e : ShardState)
    : Type 0 where
  pub view : MemberView
  pub was : member_views old p ≡ Some view
  pub outside : view.boss ≡ None
  pub item : Option Item
  pub may : MayBeHanded (time_of old.crew) view.next item
  pub says : job ≡ record { pid = p; tag = view.tag; what = what_of view.begun view.origin (Some view.next) item }
  pub taken : ItemIsTaken p view.next item d e
  pub now : AreViewed p (Some (record view { begun = true; next = Running })) old new
  pub takes : takes e.journal ≡ item_handed p item ++ takes d.journal

-- p has exited, and is none of the scheduler then. Its exit is all that was done on the desk, if it had not exited before.
pub record TellsExit (p : Pid) (old : Scheduler) (d : ShardState) (job : Job) (new : Scheduler) (e : ShardState)
    : Type 0 where
  pub view : MemberView
  pub was : member_views old p ≡ Some view
  pub says : job ≡ record { pid = p; tag = view.tag; what = Exit (exit_reason p e.journal view.lost) view.next }
  pub exits : HasExited p view.next d e
  pub gone : lives e p ≡ false
  pub now : AreViewed p None old new
  pub takes : takes e.journal ≡ takes d.journal
  -- as a supervisor it still is what it was, for the theorem on those that stopped
  pub stands : (past : Past) → SchedulerUpholds past old d → (b : Member) → b.boss ≡ view.boss
      → StandsStill (Keeps past boss_part) (record { pid = p; behaviour = b; next = view.next }) e

-- p is a supervisor, and handles the first item in its mailbox that its pick fits, or none, at the time of the step; those
-- whom it starts wait to enter. It stands behind the queue, if it may have more to do.
pub record RunsBoss (p : Pid) (rest : List Pid) (old : Scheduler) (d : ShardState) (new : Scheduler) (e : ShardState)
    : Type 0 where
  pub view : MemberView
  pub was : member_views old p ≡ Some view
  pub boss : Supervisor Plan
  pub inside : view.boss ≡ Some boss
  pub item : Option Item
  pub may : MayBeHanded (time_of old.crew) view.next item
  -- on its desk once the item was taken, and nothing else done
  pub mid : ShardState
  pub taken : ItemIsTaken p view.next item d mid
  pub next : Next
  pub later : Supervisor Plan
  pub births : List (Role Member)
  pub handles : BossHandles (time_of old.crew) boss mid p item next later e births
  pub now : AreViewed p (Some (record view { next = next; boss = Some later })) old new
  pub born : waiting new.crew ≡ waiting old.crew ++ births
  pub takes : takes e.journal ≡ item_handed p item ++ takes d.journal
  pub queue : queue new.crew ≡ rest ++ again_as p (handed_as next (phase_of e p))
  pub refused : was_refused new.crew ≡ was_refused old.crew

-- p gets nothing: it has nothing to do, and leaves the queue; or it goes behind it, where memory or stamps were refused
pub record StaysPut (p : Pid) (rest : List Pid) (old : Scheduler) (d : ShardState) (new : Scheduler) (e : ShardState)
    : Type 0 where
  pub view : MemberView
  pub was : member_views old p ≡ Some view
  pub views : SameViews old new
  pub desk : e ≡ d
  pub waits : waiting new.crew ≡ waiting old.crew
  pub queue : (HasNothing (time_of old.crew) p view.next d × (queue new.crew ≡ rest)
      × (was_refused new.crew ≡ was_refused old.crew))
      ⊎ ((queue new.crew ≡ rest ++ p ∷ []) × (was_refused new.crew ≡ true))

-- of those who wait to enter none has come or gone, and whether a call was refused stays
abbrev pub KeepsWaiting : Scheduler → Scheduler → Type 0
KeepsWaiting old new = (waiting new.crew ≡ waiting old.crew) × (was_refused new.crew ≡ was_refused old.crew)

-- the first of the queue is come to, if there is one
abbrev pub PullsFirst : List Pid → Scheduler → ShardState → Option Job → Scheduler → ShardState → Type 0
PullsFirst [] old d job new e = (job ≡ None) × (new ≡ old) × (e ≡ d)
PullsFirst (p ∷ rest) old d (Some job) new e =
    (HandsOut p old d job new e ⊎ TellsExit p old d job new e) × (queue new.crew ≡ rest) × KeepsWaiting old new
PullsFirst (p ∷ rest) old d None new e = RunsBoss p rest old d new e ⊎ StaysPut p rest old d new e

abbrev pub Pulls : Scheduler → ShardState → Option Job → Scheduler → ShardState → Type 0
Pulls old d job new e = PullsFirst (queue old.crew) old d job new e

-- so one after the other
abbrev pub PullsAll : List (Option Job) → Scheduler → ShardState → Scheduler → ShardState → Type 0
PullsAll [] old d new e = (new ≡ old) × (e ≡ d)
PullsAll (job ∷ pulled) old d new e =
    (mid : Scheduler) × (f : ShardState) × Pulls old d job mid f × PullsAll pulled mid f new e

-- the jobs among them
abbrev pub jobs_of : List (Option Job) → List Job
jobs_of [] = []
jobs_of (None ∷ pulled) = jobs_of pulled
jobs_of (Some job ∷ pulled) = job ∷ jobs_of pulled

abbrev pub pids_told : List Job → List Pid
pids_told [] = []
pids_told (job ∷ jobs) = job.pid ∷ pids_told jobs

-- Pulls, until each process that stood in the queue was come to once, or the slice is full. The jobs stand in front of
-- it, and what stood behind them stays.
pub record Fills (jobs : List Job) (old : Scheduler) (d : ShardState) (count : ℕ) (later : List Job) (new : Scheduler)
    (e : ShardState) : Type 0 where
  pub pulled : List (Option Job)
  pub pulls : PullsAll pulled old d new e
  pub counted : count ≡ length (jobs_of pulled)
  pub wrote : later ≡ jobs_of pulled ++ drop count jobs
  pub stops : (length pulled ≡ length (queue old.crew)) ⊎ (count ≡ length jobs)
  -- no process is in it twice
  pub once : IsDistinct same_pid (pids_told (jobs_of pulled))

-- a running process is a supervisor from now on, and proceeds
pub record BecomesBoss (p : Pid) (spec : SupervisorSpec) (children : List ChildSpec) (old new : Scheduler) : Type 0 where
  pub behaviour : Member
  pub ran : roles old.crew p ≡ Some (behaviour, Running)
  pub boss : Supervisor Plan
  pub is_new : IsNewBoss spec children boss
  pub does : AreWith p (Some (record behaviour { boss = Some boss }, Proceed)) (roles old.crew) (roles new.crew)
  pub longer : QueueIsLonger (queue old.crew) (queue new.crew)
  pub rest : KeepsRest old.crew new.crew

-- A new supervisor is born and enters the scheduler, behind its queue; or nothing has changed, where the desk refused the
-- birth or there was no memory.
abbrev pub SpawnsBoss : ℕ → SupervisorSpec → List ChildSpec → Crew Member → ShardState → Result Pid Fault → Crew Member
    → ShardState → Type 0
SpawnsBoss tag spec children old d (Ok p) new e =
    (boss : Supervisor Plan) × IsNewBoss spec children boss
    × Enters (new_member tag (Some boss)) Proceed old d (Ok p) new e
SpawnsBoss tag spec children old d (Err f) new e =
    (Bears None None d (Err f) e ⊎ ((f ≡ Memory) × (e ≡ d))) × IsSame old new

-- p is no supervisor of these
abbrev pub IsNoBoss : Scheduler → Pid → Type 0
IsNoBoss t p = (b : Member) (n : Next) → roles t.crew p ≡ Some (b, n) → b.boss ≡ None

-- whatever was done on the desk, nothing was done for a supervisor of these: it is as it was, and bore nobody
abbrev pub AreLeftAlone : Scheduler → ShardState → ShardState → Type 0
AreLeftAlone t d e =
    (p : Pid) (b : Member) (n : Next) (boss : Supervisor Plan) → roles t.crew p ≡ Some (b, n) → b.boss ≡ Some boss
    → IsLeftAlone p d e

-- so it is known of a process
abbrev pub view_kept : Option Reason → MemberView → MemberView
view_kept ended v = record v { lost = reason_kept ended v.lost }

-- each process of a crew is in its queue
abbrev pub AreAllQueued : {B : Type 0} → Crew B → Type 0
AreAllQueued {B} c = (p : Pid) (m : Place B) → members c p ≡ Some m → is_queued m ≡ true

-- The scheduler goes on over the desk of the same number in a node that was resumed, with the history of the node before,
-- whose newest event is in front. Each process does next what it was to do, and the reason of its exit is known, if the history
-- has one.
pub record SchedulerGoesOn (past : List Stamped) (old new : Scheduler) : Type 0 where
  pub views : (p : Pid) → member_views new p ≡ option_map (view_kept (exit_in p past)) (member_views old p)
  pub longer : QueueIsLonger (queue old.crew) (queue new.crew)
  pub rest : KeepsRest old.crew new.crew
  pub desk : new.desk ≡ old.desk
  -- a scheduler of a desk has all its processes in the queue then
  pub all : (d : ShardState) → SchedulerAttends old d → AreAllQueued new.crew
  -- and it is one of a desk on which these were born, if the history has each exit of their own
  pub attends : (d e : ShardState) → SchedulerAttends old d → HasExitsOf d.journal past → AreBorn (roles old.crew) e
      → SchedulerAttends new e
  -- the exits are kept first, which changes nothing of its supervisors; and then its crew begins again
  pub mid : Scheduler
  pub kept : (before : Past) (d : ShardState) → SchedulerUpholds before old d → SchedulerUpholds before mid d
  pub again : AreSame (roles mid.crew) (roles new.crew)
