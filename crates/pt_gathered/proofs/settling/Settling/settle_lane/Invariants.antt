-- `Settling::settle_lane`: what holds in its loop over `k`.
use Rattle.std.proofs.Common.{◌≡◌, ◌<◌, drop}
use Rattle.std.specs.Bool.{MatchBool}
use Rattle.pt_gathered.specs.Settling.{Runs, event_count}
use Rattle.pt_gathered.specs.Order.{Comes}
use Rattle.pt_gathered.specs.Waits.{KeepsNone, posted_in}
use Rattle.pt_gathered.proofs.settling.Settling.settle_lane.Given as goal

abbrev pub invariant-loop-k : goal.invariant-loop-k
invariant-loop-k l = record {
  runs : Runs l.fn.self.node l.fn.self.handled l.self.node l.self.handled;
  moved : MatchBool l.moved (event_count l.fn.self.node < event_count l.self.node) ((l.self.node ≡ l.fn.self.node) × (l._k ≡ 0));
  comes : Comes l.d l.e l._k l.fn.self.node l.self.node;
  keeps : KeepsNone l.fn.self.node l.self.node;
  posted : posted_in l.self.node.shards l.self.node.lanes l.d l.e ≡ drop l._k (posted_in l.fn.self.node.shards l.fn.self.node.lanes l.d l.e);
  waits : l.self.waits ≡ l.fn.self.waits;
  least : l.self.least ≡ l.fn.self.least;
}
