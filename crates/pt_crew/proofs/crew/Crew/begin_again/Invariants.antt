-- `Crew::begin_again`: what holds in its loop over `place`.
use Rattle.std.proofs.Common.{◌≡◌, drop}
use Rattle.std.specs.Map.{keys_of}
use Rattle.pt_crew.specs.Visiting.{AreSame}
use Rattle.pt_crew.specs.Crews.{KeepsRest, HasRoom, HasTimers, queue, roles}
use Rattle.pt_crew.specs.Parts.{MarkedBut, QueueHolds}
use Rattle.pt_crew.specs.Stepping.{QueueIsLonger}
use Rattle.pt_crew.proofs.crew.Crew.begin_again.Given as goal

abbrev pub invariant-loop-place : goal.invariant-loop-place
invariant-loop-place g l = record {
  keys : keys_of l.self.members.entries ≡ keys_of l.fn.self.members.entries;
  marked : MarkedBut (drop l.place (keys_of l.self.members.entries)) l.self;
  queued : QueueHolds l.fn.self → QueueHolds l.self;
  kept : AreSame (roles l.fn.self) (roles l.self);
  longer : QueueIsLonger (queue l.fn.self) (queue l.self);
  rest : KeepsRest l.fn.self l.self;
  timers : HasTimers l.fn.self → HasTimers l.self;
  room : HasRoom l.fn.self → HasRoom l.self;
}
