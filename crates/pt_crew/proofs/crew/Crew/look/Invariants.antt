-- `Crew::look`: what holds in its loop over `self`.
use Rattle.std.proofs.Common.{◌-◌, length}
use Rattle.pt_crew.specs.Visiting.{AreSame}
use Rattle.pt_crew.specs.Crews.{KeepsRest, KnowsDesk, HasRoom, HasTimers, queue, roles}
use Rattle.pt_crew.specs.Stepping.{QueueIsLonger}
use Rattle.pt_crew.proofs.crew.Crew.look.Given as goal

abbrev pub invariant-loop-self : goal.invariant-loop-self
invariant-loop-self g l = record {
  knows : KnowsDesk l.initial.self l.desk.shard → KnowsDesk l.self l.desk.shard;
  kept : AreSame (roles l.initial.self) (roles l.self);
  longer : QueueIsLonger (queue l.initial.self) (queue l.self);
  rest : KeepsRest l.initial.self l.self;
  timers : HasTimers l.initial.self → HasTimers l.self;
  room : HasRoom l.initial.self → HasRoom l.self;
}

abbrev pub decreases-loop-self : goal.decreases-loop-self
decreases-loop-self g l = length l.events - l.self.read
