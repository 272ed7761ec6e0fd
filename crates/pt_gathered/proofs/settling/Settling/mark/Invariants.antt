-- `Settling::mark`: what holds in its loop over `k`.
use Rattle.std.proofs.Common.{◌≡◌}
use Rattle.pt_gathered.specs.Waits.{Marks}
use Rattle.pt_gathered.proofs.settling.Settling.mark.Given as goal

abbrev pub invariant-loop-k : goal.invariant-loop-k
invariant-loop-k l = record {
  marks : Marks l.d l.k l.fn.self.node l.fn.self.waits l.self.waits;
  node : l.self.node ≡ l.fn.self.node;
  least : l.self.least ≡ l.fn.self.least;
  handled : l.self.handled ≡ l.fn.self.handled;
}
