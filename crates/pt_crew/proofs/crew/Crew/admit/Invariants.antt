-- `Crew::admit`: what holds in its loop over `place`.
use Rattle.pt_shard.specs.ShardState.{lives}
use Rattle.pt_crew.specs.Crews.{KnowsDesk, HasRoom, HasTimers}
use Rattle.pt_crew.proofs.Visiting.{Entering}
use Rattle.pt_crew.proofs.crew.Crew.admit.Given as goal

abbrev pub invariant-loop-place : goal.invariant-loop-place
invariant-loop-place g l = record {
  so_far : Entering (lives l.desk.shard) l._place l.fn.self l.self;
  knows : KnowsDesk l.fn.self l.desk.shard → KnowsDesk l.self l.desk.shard;
  timers : HasTimers l.fn.self → HasTimers l.self;
  room : HasRoom l.fn.self → HasRoom l.self;
}
