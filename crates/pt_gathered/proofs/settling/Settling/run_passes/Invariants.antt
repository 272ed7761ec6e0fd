-- `Settling::run_passes`: what holds in its loop over `more`.
use Rattle.std.proofs.Common.{ℕ, ◌+◌, length, cond}
use Rattle.std.specs.Prelude.{⊤}
use Rattle.std.specs.Bool.{MatchBool}
use Rattle.pt_gathered.specs.Settling.{Runs, NothingLeft, load_of}
use Rattle.pt_gathered.specs.Order.{Passes}
use Rattle.pt_gathered.specs.Waits.{AreLeast, Waits}
use Rattle.pt_gathered.proofs.settling.Settling.run_passes.Given as goal

abbrev pub invariant-loop-more : goal.invariant-loop-more
invariant-loop-more l = record {
  runs : Runs l.fn.self.node l.fn.self.handled l.self.node l.self.handled;
  done : MatchBool l.more ⊤ (NothingLeft l.self.node);
  waits : Waits l.self.waits l.self.node;
  least : AreLeast l.self.least l.self.node;
  order : (count : ℕ) × Passes (length l.fn.self.node.shards) count l.fn.self.node l.self.node;
}

abbrev pub decreases-loop-more : goal.decreases-loop-more
decreases-loop-more l = load_of l.self.node + cond l.more 1 0
