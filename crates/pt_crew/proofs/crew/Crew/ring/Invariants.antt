-- `Crew::ring`: what holds in its loop over `due`.
use Rattle.std.proofs.Common.{◌≡◌, ◌+◌, ◌≤◌, length}
use Rattle.pt_shard.specs.ShardState.{ShardState}
use Rattle.pt_crew.specs.Visiting.{AreSame}
use Rattle.pt_crew.specs.Crews.{KeepsRest, KnowsDesk, HasRoom, HasTimers, queue, read_events, roles}
use Rattle.pt_crew.specs.Stepping.{QueueIsLonger}
use Rattle.pt_crew.proofs.crew.Crew.ring.Given as goal

abbrev pub invariant-loop-due : goal.invariant-loop-due
invariant-loop-due g l = record {
  knows : (d : ShardState) → KnowsDesk l.fn.self d → KnowsDesk l.self d;
  kept : AreSame (roles l.fn.self) (roles l.self);
  longer : QueueIsLonger (queue l.fn.self) (queue l.self);
  read : read_events l.self ≡ read_events l.fn.self;
  rest : KeepsRest l.fn.self l.self;
  timers : HasTimers l.fn.self → HasTimers l.self;
  room : HasRoom l.fn.self → HasRoom l.self;
  fewer : HasTimers l.fn.self → length l.self.timers.pending + l._due ≤ length l.fn.self.timers.pending;
}
