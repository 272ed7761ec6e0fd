-- `one_by_one`: what holds in its loop over `d`.
use Rattle.std.proofs.Common.{◌≡◌, ℕ, ◌<◌, ◌≤◌, length, get_or}
use Rattle.pt_desk.specs.DeskState.{DeskState}
use Rattle.pt_workers.specs.Running.{AllGoOn, Works, begins_by}
use Rattle.pt_workers.proofs.running.one_by_one.Given as goal

abbrev pub invariant-loop-d : goal.invariant-loop-d
invariant-loop-d g l = record {
  each : AllGoOn l.initial.desks.items l.desks.items;
  done : (k : ℕ) (x : DeskState × g.row.W.Denot) → k < length l.initial.desks.items → k < l.d
      → Works (begins_by g.W.Task.standing (g.G.Gate.lets l.gate) (get_or l.initial.desks.items k x).0.shard.number) (g.W.Task.does, g.W.Task.hears) l.turns l.budget (get_or l.initial.desks.items k x) (get_or l.desks.items k x);
  rest : (k : ℕ) (x : DeskState × g.row.W.Denot) → l.d ≤ k → get_or l.desks.items k x ≡ get_or l.initial.desks.items k x;
}
