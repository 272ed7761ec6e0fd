-- `Shard::versions`: its contract.
use Rattle.std.proofs.Common.{◌≡◌, false, subst}
use Rattle.pt_signal.specs.declared.pid.Pid.{Pid}
use Rattle.pt_events.specs.History.{is_unborn}
use Rattle.pt_shard.specs.ShardState.{ShardState, phase_of}
use Rattle.pt_shard.specs.Whole.{parts_of}
use Rattle.pt_shard.specs.InTurn.{IsInTurn}
use Rattle.pt_shard.proofs.InTurn.{in_turn}
use Rattle.pt_shard.proofs.shard.Shard.versions.Goals as goal

pub returns : goal.returns
returns c =
    let i = c.self.inside in
    subst (λ (d : ShardState). (p : Pid) → is_unborn (phase_of d p) ≡ false → IsInTurn d p) c.self.view_is
    (in_turn (parts_of i.config i.ledger.book i.processes) c.self.invariant c.slots.ensures.beyond)
