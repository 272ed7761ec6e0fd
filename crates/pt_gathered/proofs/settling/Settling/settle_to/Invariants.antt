-- `Settling::settle_to`: what holds in its loop over `d`.
use Rattle.std.proofs.Common.{◌≡◌, ℕ, ◌<◌, []}
use Rattle.std.specs.Bool.{MatchBool}
use Rattle.pt_gathered.specs.Settling.{Runs, NothingTo, event_count}
use Rattle.pt_gathered.specs.Order.{DeskComes}
use Rattle.pt_gathered.specs.Waits.{KeepsNone, posted_in}
use Rattle.pt_gathered.proofs.settling.Settling.settle_to.Given as goal

abbrev pub invariant-loop-d : goal.invariant-loop-d
invariant-loop-d l = record {
  runs : Runs l.fn.self.node l.fn.self.handled l.self.node l.self.handled;
  moved : MatchBool l.moved (event_count l.fn.self.node < event_count l.self.node) ((l.self.node ≡ l.fn.self.node) × NothingTo l.d l.e l.fn.self.node);
  order : DeskComes l.d l.e l.fn.self.node l.self.node;
  keeps : KeepsNone l.fn.self.node l.self.node;
  none : (k : ℕ) → k < l.d → posted_in l.self.node.shards l.self.node.lanes k l.e ≡ [];
  waits : l.self.waits ≡ l.fn.self.waits;
  least : l.self.least ≡ l.fn.self.least;
}
