-- The state that a node goes on from.
use Rattle.std.specs.Prelude.{◌≡◌, ℕ, ◌<◌, false, List, []}
use Rattle.std.specs.List.{flat_map}
use Rattle.pt_signal.specs.declared.pid.Pid.{Pid}
use Rattle.pt_events.specs.History.{Past, Start, at_start, is_unborn}
use Rattle.pt_laws.specs.Load.{IsStart}
use Rattle.pt_laws.specs.Links.{IsKnownSaid, IsBornHome}
use Rattle.pt_events.specs.OldRefs.{HasOldRefs}
use Rattle.pt_laws.specs.Resumed.{IsLeftBy, MadeUpTo}
use Rattle.pt_laws.specs.Words.{HasOneEntryEach, KeepsEachOnce}
use Rattle.pt_shard.specs.ShardState.{ShardState}

-- what was before the journals of all desks: what was before each, one desk after the other
abbrev pub start_of : List ShardState → Start
start_of shards = flat_map (λ (s : ShardState). s.start) shards

-- a legal and quiet history, as desks make them, has left it behind, and what was made before is numbered up to low;
-- why processes ended may be forgotten
pub record IsBeginning (low : ℕ) (start : Start) : Type 0 where
  pub past : Past
  pub left : IsLeftBy start past
  pub known : IsKnownSaid [] past
  pub home : IsBornHome past
  pub numbered : MadeUpTo low past
  -- each process stands in it once, and the references that are open in it are old
  pub once : IsStart start
  pub refs : HasOldRefs low start
  -- whoever is there was born at a stamp that is not 0
  pub since : (p : Pid) → is_unborn (at_start start p) ≡ false → 0 < low
  -- no process has two entries with one other, and none keeps a watch twice
  pub entries : HasOneEntryEach start
  pub kept : KeepsEachOnce start
