-- What a program asks of a supervisor of a scheduler about its children, by their ids, which are their tags.
use Rattle.std.specs.Prelude.{◌≡◌, ◌⊎◌, ℕ, List, [], ◌∷◌, ◌++◌, Option, Some, None, Result, Ok, Err, remove}
use Rattle.std.specs.Option.{option_map}
use Rattle.pt_signal.specs.declared.pid.Pid.{Pid}
use Rattle.pt_behaviour.specs.declared.behaviour.Next.{Next}
use Rattle.pt_crew.specs.Visiting.{AreWith}
use Rattle.pt_crew.specs.Crews.{KeepsRest, queue, roles}
use Rattle.pt_crew.specs.Stepping.{QueueIsLonger}
use Rattle.pt_children.specs.declared.child_fault.ChildFault.{ChildFault}
use Rattle.pt_children.specs.declared.gave_up.GaveUp.{GaveUp}
use Rattle.pt_children.specs.declared.seen.ChildCounts.{ChildCounts}
use Rattle.pt_supervisor.specs.declared.supervisor.Supervisor.{Supervisor}
use Rattle.pt_shard.specs.declared.fault.Fault.{Fault}
use Rattle.pt_children.specs.Answering.{AnswersNotStarted, AnswersStarted, AsksProgram}
use Rattle.pt_children.specs.Calling.{AddsChild, DeletesChild, RestartsChild, TerminatesChild}
use Rattle.pt_supervisor.specs.Changed.{next_due}
use Rattle.pt_children.specs.Hearing.{Standing}
use Rattle.pt_supervisor.specs.Hearing.{program_of, standing}
use Rattle.pt_children.specs.Seen.{children_counted}
use Rattle.pt_scheduler.specs.declared.member.Member.{Member}
use Rattle.pt_children.specs.declared.spec.ChildSpec.{ChildSpec}
use Rattle.pt_scheduler.specs.declared.plan.Plan.{Plan}
use Rattle.pt_scheduler.specs.declared.plan.Post.{Post}
use Rattle.pt_scheduler.specs.declared.scheduler.Scheduler.{Scheduler}
use Rattle.pt_children.specs.Specifying.{child_as}
use Rattle.pt_scheduler.specs.Planning.{post_as, posts_of}
use Rattle.pt_scheduler.specs.Scheduling.{IsNoBoss, MemberView}

-- what a supervisor makes of it --------------------------------------------------------------

-- its places
abbrev pub its_posts : Supervisor Plan → List Post
its_posts boss = posts_of (program_of boss)

-- a child that was taken in has the last place
abbrev pub posts_started : ChildSpec → Result ℕ ChildFault → List Post → List Post
posts_started spec (Ok place) posts = posts ++ post_as spec ∷ []
posts_started spec (Err f) posts = posts

-- one that was forgotten has none, and those behind it move up
abbrev pub posts_deleted : Result ℕ ChildFault → List Post → List Post
posts_deleted (Ok place) posts = remove posts place
posts_deleted (Err f) posts = posts

-- a child is taken in as a supervisor takes it in; or nothing has changed, for want of memory
abbrev pub AddsOrNot : ChildSpec → Standing → Result ℕ ChildFault → Standing → Type 0
AddsOrNot spec s result t =
    AddsChild (child_as spec) s result t ⊎ ((result ≡ Err ChildFault.Memory) × (t ≡ s))

abbrev pub BossStarts : ChildSpec → Supervisor Plan → Result ℕ ChildFault → Supervisor Plan → Type 0
BossStarts spec old result new =
    AddsOrNot spec (standing old) result (standing new)
    × (its_posts new ≡ posts_started spec result (its_posts old))

abbrev pub BossTerminates : ℕ → Supervisor Plan → Result (Unit {0}) ChildFault → Supervisor Plan → Type 0
BossTerminates id old result new =
    TerminatesChild id (standing old) result (standing new) × (its_posts new ≡ its_posts old)

abbrev pub BossRestarts : ℕ → Supervisor Plan → Result (Unit {0}) ChildFault → Supervisor Plan → Type 0
BossRestarts id old result new =
    RestartsChild id (standing old) result (standing new) × (its_posts new ≡ its_posts old)

abbrev pub BossDeletes : ℕ → Supervisor Plan → Result ℕ ChildFault → Supervisor Plan → Type 0
BossDeletes id old result new =
    DeletesChild id (standing old) result (standing new)
    × (its_posts new ≡ posts_deleted result (its_posts old))

abbrev pub BossAsksProgram : Supervisor Plan → Result ℕ ChildFault → Supervisor Plan → Type 0
BossAsksProgram old result new = AsksProgram (standing old) result (standing new) × (its_posts new ≡ its_posts old)

abbrev pub BossAnswersStarted : ℕ → Pid → Supervisor Plan → Result (Unit {0}) ChildFault → Supervisor Plan → Type 0
BossAnswersStarted id p old result new =
    AnswersStarted id p (standing old) result (standing new) × (its_posts new ≡ its_posts old)

abbrev pub BossAnswersNotStarted : ℕ → Fault → Supervisor Plan → Result (Unit {0}) ChildFault → Supervisor Plan → Type 0
BossAnswersNotStarted id f old result new =
    AnswersNotStarted id f (standing old) result (standing new) × (its_posts new ≡ its_posts old)

-- what a scheduler makes of it ---------------------------------------------------------------

-- p is a supervisor, which was asked this, and does that next; all others stay
pub record BossIsAsked (p : Pid) (asks : Supervisor Plan → Supervisor Plan → Type 0)
    (next : Next → Supervisor Plan → Next) (old new : Scheduler) : Type 0 where
  pub behaviour : Member
  pub before : Next
  pub was : roles old.crew p ≡ Some (behaviour, before)
  pub boss : Supervisor Plan
  pub inside : behaviour.boss ≡ Some boss
  pub later : Supervisor Plan
  pub does : asks boss later
  pub now : AreWith p (Some (record behaviour { boss = Some later }, next before later)) (roles old.crew) (roles new.crew)
  pub longer : QueueIsLonger (queue old.crew) (queue new.crew)
  pub rest : KeepsRest old.crew new.crew

-- A supervisor that has taken in what it was asked stands in the queue, and does what is due next. One that has refused it
-- does what it was to do. Where p is no supervisor nothing has changed.
abbrev pub AsksBoss : {A : Type 0} → Pid → (Result A ChildFault → Supervisor Plan → Supervisor Plan → Type 0)
    → Option (Result A ChildFault) → Scheduler → Scheduler → Type 0
AsksBoss p asks None old new = IsNoBoss old p × (new ≡ old)
AsksBoss p asks (Some (Ok a)) old new = BossIsAsked p (asks (Ok a)) (λ before later. next_due (standing later)) old new
AsksBoss p asks (Some (Err f)) old new =
    BossIsAsked p (asks (Err f)) (λ before later. before) old new × (queue new.crew ≡ queue old.crew)

-- what is seen ---------------------------------------------------------------------------------

-- how many children a supervisor has
abbrev pub counts_seen : Option MemberView → Option ChildCounts
counts_seen None = None
counts_seen (Some v) = option_map (λ s. children_counted (standing s).children) v.boss

abbrev pub cause_of : Option (Supervisor Plan) → Option GaveUp
cause_of None = None
cause_of (Some boss) = (standing boss).gave_up

-- why it gave up, if it has
abbrev pub cause_seen : Option MemberView → Option GaveUp
cause_seen None = None
cause_seen (Some v) = cause_of v.boss
