-- `CrewWork::step`: what holds in its loop over `round`.
use Rattle.std.proofs.Common.{◌≤◌}
use Rattle.std.specs.Prelude.{max}
use Rattle.pt_desk.specs.DeskState.{GoesOn}
use Rattle.pt_crew.specs.Crews.{KnowsDesk, HasRoom, HasTimers}
use Rattle.pt_crew.proofs.Visiting.{Stepping}
use Rattle.pt_crew.proofs.crew.CrewWork.step.Given as goal

abbrev pub invariant-loop-round : goal.invariant-loop-round
invariant-loop-round g l = record {
  so_far : Stepping g.B.Behaviour.answers l._round l.fn.self l.fn.desk.shard l.self l.desk.shard;
  low : 1 ≤ l._round;
  high : l._round ≤ max 1 l.fn.self.rounds;
  knows : KnowsDesk l.fn.self l.fn.desk.shard → KnowsDesk l.self l.desk.shard;
  timers : KnowsDesk l.fn.self l.fn.desk.shard → HasTimers l.fn.self → HasTimers l.self;
  room : HasRoom l.fn.self → HasRoom l.self;
  goes_on : GoesOn l.fn.desk l.desk;
}
