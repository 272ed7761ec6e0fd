-- `written_on`: what holds in its loop over `which`.
use Rattle.std.proofs.Common.{◌≡◌, length, map, take}
use Rattle.pt_desk.specs.DeskState.{DeskState}
use Rattle.pt_node.proofs.gathering.written_on.Given as goal

abbrev pub invariant-loop-which : goal.invariant-loop-which
invariant-loop-which l = l.written.items ≡ map (λ (d : DeskState). length d.shard.journal) (take l.which l.desks)
