-- `work_turns`: what holds in its loop over `turn`.
use Rattle.pt_desk.specs.DeskState.{GoesOn}
use Rattle.pt_workers.specs.Running.{TakesTurns, begins_by}
use Rattle.pt_workers.proofs.running.work_turns.Given as goal

abbrev pub invariant-loop-turn : goal.invariant-loop-turn
invariant-loop-turn g l = record {
  goes_on : GoesOn l.initial.pair.0 l.pair.0;
  took : TakesTurns (begins_by g.W.Task.standing (g.G.Gate.lets l.gate) l.initial.pair.0.shard.number) (g.W.Task.does, g.W.Task.hears) l.budget l.turn l.initial.pair l.pair;
}
