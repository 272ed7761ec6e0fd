-- A supervisor that is taken out of its process to be asked. No public clause cites this module.
use Rattle.std.specs.Prelude.{◌≡◌, cond, Bool, false, Option, Some, None}
use Rattle.pt_signal.specs.declared.pid.Pid.{Pid}
use Rattle.pt_shard.specs.ShardState.{ShardState}
use Rattle.pt_behaviour.specs.declared.behaviour.Next.{Next}
use Rattle.pt_crew.specs.Visiting.{AreWith}
use Rattle.pt_crew.specs.Crews.{Attends, KeepsRest, queue, roles}
use Rattle.pt_crew.specs.Stepping.{QueueIsLonger}
use Rattle.pt_supervisor.specs.declared.supervisor.Supervisor.{Supervisor}
use Rattle.pt_supervisor.specs.Changed.{next_due}
use Rattle.pt_supervisor.specs.Hearing.{standing}
use Rattle.pt_scheduler.specs.declared.member.Member.{Member}
use Rattle.pt_scheduler.specs.declared.plan.Plan.{Plan}
use Rattle.pt_scheduler.specs.declared.scheduler.Scheduler.{Scheduler}
use Rattle.pt_scheduler.specs.Scheduling.{IsNoBoss, new_member}
use Rattle.pt_scheduler.specs.Taken.{StaysElse}

-- a process without the supervisor that it is, if it is one
abbrev pub IsApart : Member → Option (Supervisor Plan × Member) → Type 0
IsApart b None = b.boss ≡ None
IsApart b (Some (boss, rest)) = (b.boss ≡ Some boss) × (rest ≡ record b { boss = None })

-- p is a supervisor, and is out of its place, in which one stands of which nothing is known
pub record IsOut (p : Pid) (boss : Supervisor Plan) (rest : Member) (old new : Scheduler) : Type 0 where
  pub behaviour : Member
  pub before : Next
  pub was : roles old.crew p ≡ Some (behaviour, before)
  pub inside : behaviour.boss ≡ Some boss
  pub without : rest ≡ record behaviour { boss = None }
  pub now : AreWith p (Some (new_member 0 None, before)) (roles old.crew) (roles new.crew)
  pub other : StaysElse old new

abbrev pub TakesBoss : Pid → Scheduler → Option (Supervisor Plan × Member) → Scheduler → Type 0
TakesBoss p old None new = IsNoBoss old p × (new ≡ old)
TakesBoss p old (Some (boss, rest)) new = IsOut p boss rest old new

-- p is this supervisor, if it is one of these, and does what is due next, if it was changed
pub record PutsBoss (p : Pid) (boss : Supervisor Plan) (member : Member) (is_taken : Bool) (old new : Scheduler) : Type 0 where
  pub set : (was : Member) (before : Next) → roles old.crew p ≡ Some (was, before)
      → AreWith p (Some (record member { boss = Some boss }, cond is_taken (next_due (standing boss)) before))
      (roles old.crew) (roles new.crew)
  pub longer : QueueIsLonger (queue old.crew) (queue new.crew)
  pub stays : is_taken ≡ false → queue new.crew ≡ queue old.crew
  pub read : new.read ≡ old.read
  pub desk : new.desk ≡ old.desk
  pub rest : KeepsRest old.crew new.crew
  pub attends : (d : ShardState) → Attends old.crew d → Attends new.crew d
