-- `all_rounds`: what holds in its loop over `turn`.
use Rattle.std.proofs.Common.{◌≡◌, ◌≤◌, false, length, replicate}
use Rattle.pt_workers.specs.Running.{AllGoOn, Rounds, begins_by}
use Rattle.pt_workers.proofs.Rounding.{AllSoFar}
use Rattle.pt_workers.proofs.running.all_rounds.Given as goal

abbrev pub invariant-loop-turn : goal.invariant-loop-turn
invariant-loop-turn g l = record {
  each : AllGoOn l.initial.desks.items l.desks.items;
  rounds : Rounds (begins_by g.W.Task.standing (g.G.Gate.lets l.gate)) (g.W.Task.does, g.W.Task.hears) l.budget (length l.initial.desks.items) l.turn (l.initial.desks.items, replicate 64 false) (l.desks.items, l.ended);
  long : length l.ended ≡ 64;
  within : l.turn ≤ l.turns;
  so_far : AllSoFar (begins_by g.W.Task.standing (g.G.Gate.lets l.gate)) (g.W.Task.does, g.W.Task.hears) l.budget l.turn l.initial.desks.items (l.desks.items, l.ended);
}
