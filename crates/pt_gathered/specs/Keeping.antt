-- What is kept of a node's directory while the node is gathered, settled and resumed.
use Rattle.std.specs.Prelude.{◌≡◌, ℕ, ◌<◌, ◌≤◌, List, length, map}
use mathlib.Core.Option.{some}
use lib.ListN.{get_elem?}
use Rattle.pt_signal.specs.declared.pid.Pid.{Pid}
use Rattle.pt_events.specs.Journal.{clock}
use Rattle.pt_directory.specs.declared.view.Death.{Death}
use Rattle.pt_directory.specs.Views.{up_from}
use Rattle.pt_directory.specs.Seats.{DirectoryState, SeatState, HasToldOf}
use Rattle.pt_shard.specs.ShardState.{ShardState}
use Rattle.pt_gathered.specs.Gathered.{GatheredState, journals}
use Rattle.pt_gathered.specs.Late.{HasEndedOn}
use Rattle.pt_gathered.specs.Settling.{Settles}

-- the directory, one seat that knows all that the desks' seats knew, and how many events each desk's journal had
pub record KeptState : Type 0 where
  pub directory : DirectoryState
  pub seat : SeatState
  pub written : List ℕ

-- an end that was told is of a process that has ended on the node, and no clock of its desk was behind its stamp
pub record IsEndOn (g : GatheredState) (x : Death) : Type 0 where
  pub shard : x.shard < length g.shards
  pub stamp : x.stamp ≤ clock g.config.start (journals g x.shard)
  pub ended : HasEndedOn g (record { shard = x.shard; slot = x.slot; version = x.version })

-- the directory is the node's, and the seat is the home of all its desks; each end that it told is one; of each process
-- that has ended on the node its end was told, or a later one of its slot; and so many events have the journals
pub record IsKeptOf (g : GatheredState) (k : KeptState) : Type 0 where
  pub desks : k.directory.desks ≡ g.config.desks
  pub slots : k.directory.slots ≡ g.config.slots
  pub name : k.seat.name ≡ k.directory.name
  pub homes : k.seat.homes ≡ up_from 0 g.config.desks
  pub ends : (j : ℕ) (x : Death) → get_elem? k.seat.deaths j ≡ some x → IsEndOn g x
  pub all : (p : Pid) → p.shard < length g.shards → HasEndedOn g p → HasToldOf p k.seat
  pub written : k.written ≡ map (λ (s : ShardState). length s.journal) g.shards

-- it was kept when this node was gathered, or before it was settled
pub record IsKeptFor (g : GatheredState) (k : KeptState) : Type 0 where
  pub gathered : GatheredState
  pub kept : IsKeptOf gathered k
  pub settles : Settles gathered g
