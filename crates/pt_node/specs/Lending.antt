-- What a node's desks end as, where a `&mut` to one of them is returned. No public clause cites this module.
use Rattle.std.specs.Prelude.{◌≡◌, ℕ, ◌<◌, ◌≤◌, false, List, length, slice_index_or, Result}
use Rattle.std.specs.Borrow.{Fml, LendsIfOk, MutBor}
use Rattle.std.specs.Global.{Vec}
use Rattle.std.specs.Vec.{with_item}
use Rattle.std_alloc.specs.contracts.vec.Vec.{the_row as vec_row}
use Rattle.std_heap.specs.contracts.Global.{the_row as heap_row}
use Rattle.std_heap.specs.contracts.GlobalAllocator.TheImpl.{ghosts}
use Rattle.pt_signal.specs.declared.pid.Pid.{Pid}
use Rattle.pt_shard.specs.Known.{knows}
use Rattle.pt_desk.specs.DeskState.{DeskState}
use Rattle.pt_desk.specs.contracts.desk.Desk.{the_row}
use Rattle.pt_node.specs.declared.node_fault.NodeFault.{NodeFault}
use Rattle.pt_node.specs.declared.node_fault.NodeFault.TheVariants.{NoDesk, Unknown, Refused}

-- once the borrow r ends, desk d is the last value written through r; after a refusal all stay as they are
abbrev pub LendsDesk : MutBor (Vec DeskState) → ℕ → Result (MutBor DeskState) NodeFault → Fml
LendsDesk desks d r = LendsIfOk (vec_row the_row heap_row ghosts) the_row desks r (with_item desks.now d) desks.now

-- it is desk d
abbrev pub IsDeskAt : ℕ → List DeskState → DeskState → Type 0
IsDeskAt d desks x = (d < length desks) × (x ≡ slice_index_or desks d x)

-- there is no desk d that knows the target
abbrev pub IsNoTarget : ℕ → Pid → List DeskState → NodeFault → Type 0
IsNoTarget d target desks NoDesk = length desks ≤ d
IsNoTarget d target desks Unknown =
    (d < length desks) × ((x : DeskState) → knows (slice_index_or desks d x).shard target ≡ false)
IsNoTarget d target desks (Refused f) = ⊥
