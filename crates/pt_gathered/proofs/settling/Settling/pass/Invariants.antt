-- `Settling::pass`: what holds in its loop over `e`.
use Rattle.std.proofs.Common.{◌≡◌, ◌<◌, length}
use Rattle.std.specs.Bool.{MatchBool}
use Rattle.pt_gathered.specs.Settling.{Runs, NothingBelow, event_count}
use Rattle.pt_gathered.specs.Order.{InTurn, DeskComes}
use Rattle.pt_gathered.specs.Waits.{AreLeast, Waits}
use Rattle.pt_gathered.proofs.settling.Settling.pass.Given as goal

abbrev pub invariant-loop-e : goal.invariant-loop-e
invariant-loop-e l = record {
  runs : Runs l.fn.self.node l.fn.self.handled l.self.node l.self.handled;
  moved : MatchBool l.moved (event_count l.fn.self.node < event_count l.self.node) ((l.self.node ≡ l.fn.self.node) × NothingBelow l.e l.fn.self.node);
  waits : Waits l.self.waits l.self.node;
  least : AreLeast l.self.least l.self.node;
  order : InTurn (DeskComes (length l.fn.self.node.shards)) l.e l.fn.self.node l.self.node;
}
