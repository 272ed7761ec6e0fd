-- `one_round`: what holds in its loop over `d`.
use Rattle.std.proofs.Common.{◌≡◌, false}
use Rattle.pt_workers.specs.Running.{AllGoOn, HaveEnded, Round, begins_by}
use Rattle.pt_workers.proofs.running.one_round.Given as goal

abbrev pub invariant-loop-d : goal.invariant-loop-d
invariant-loop-d g l = record {
  each : AllGoOn l.initial.desks.items l.desks.items;
  round : Round (begins_by g.W.Task.standing (g.G.Gate.lets l.gate)) (g.W.Task.does, g.W.Task.hears) l.budget l.turn l.d (l.initial.desks.items, l.initial.ended) (l.desks.items, l.ended);
  none : l.goes_on ≡ false → HaveEnded l.d l.ended;
}
