-- `Crew::round`: what holds in its loop over `place`.
use Rattle.std.proofs.Common.{◌≡◌}
use Rattle.pt_desk.specs.DeskState.{GoesOn}
use Rattle.pt_crew.specs.Crews.{KnowsDesk, HasRoom, HasTimers, queue}
use Rattle.pt_crew.proofs.Visiting.{SoFar}
use Rattle.pt_crew.proofs.crew.Crew.round.Given as goal

abbrev pub invariant-loop-place : goal.invariant-loop-place
invariant-loop-place g l = record {
  so_far : SoFar g.B.Behaviour.answers (queue l.fn.self) l._place l.fn.self l.fn.desk.shard l.self l.desk.shard;
  knows : KnowsDesk l.fn.self l.fn.desk.shard → KnowsDesk l.self l.desk.shard;
  room : HasRoom l.fn.self → HasRoom l.self;
  timers : KnowsDesk l.fn.self l.fn.desk.shard → HasTimers l.fn.self → HasTimers l.self;
  time : l.self.time ≡ l.fn.self.time;
  same : l.self.rounds ≡ l.fn.self.rounds;
  goes_on : GoesOn l.fn.desk l.desk;
}
