-- `AtRest::versions`: what holds in its loop over `which`.
use Rattle.std.proofs.Common.{◌≡◌, ℕ, ◌<◌, false, get_or}
use Rattle.pt_signal.specs.declared.pid.Pid.{Pid}
use Rattle.pt_events.specs.History.{is_unborn}
use Rattle.pt_shard.specs.ShardState.{ShardState, phase_of}
use Rattle.pt_shard.specs.InTurn.{IsInTurn}
use Rattle.pt_gathered.proofs.at_rest.AtRest.versions.Given as goal

abbrev pub invariant-loop-which : goal.invariant-loop-which
invariant-loop-which l = (d : ℕ) (x : ShardState) → d < l.which → (p : Pid) → is_unborn (phase_of (get_or l.self.shards d x) p) ≡ false → IsInTurn (get_or l.self.shards d x) p
