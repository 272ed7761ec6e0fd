-- What a process of a crew does in place of what it was to do, as the outside says.
use Rattle.std.specs.Prelude.{◌≡◌, Some}
use Rattle.pt_signal.specs.declared.pid.Pid.{Pid}
use Rattle.pt_behaviour.specs.declared.behaviour.Next.{Next}
use Rattle.pt_crew.specs.declared.crew.Crew.{Crew}
use Rattle.pt_crew.specs.Visiting.{AreWith}
use Rattle.pt_crew.specs.Crews.{KeepsRest, queue, read_events, roles}
use Rattle.pt_crew.specs.Stepping.{QueueIsLonger}

-- the outside has said what p does next, whatever it was to do before; it stands in the queue then, if the crew is one of a
-- desk
pub record IsRedirected {B : Type 0} (p : Pid) (next : Next) (old new : Crew B) : Type 0 where
  pub behaviour : B
  pub before : Next
  pub was : roles old p ≡ Some (behaviour, before)
  pub does : AreWith p (Some (behaviour, next)) (roles old) (roles new)
  pub longer : QueueIsLonger (queue old) (queue new)
  pub read : read_events new ≡ read_events old
  pub rest : KeepsRest old new
