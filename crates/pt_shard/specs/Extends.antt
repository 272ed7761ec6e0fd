-- What stays through every call.
use Rattle.std.specs.Prelude.{◌≡◌, true, List, ◌++◌}
use Rattle.pt_signal.specs.declared.pid.Pid.{Pid}
use Rattle.pt_events.specs.declared.event.Stamped.{Stamped}
use Rattle.pt_shard.specs.ShardState.{ShardState}
use Rattle.pt_shard.specs.Known.{knows}

-- the journal begins with the one before, the desk is the same, and knows all that it knew
pub record Extends (old new : ShardState) : Type 0 where
  pub start : new.start ≡ old.start
  pub number : new.number ≡ old.number
  pub config : new.config ≡ old.config
  pub more : List Stamped
  pub journal : new.journal ≡ more ++ old.journal
  pub known : (p : Pid) → knows old p ≡ true → knows new p ≡ true
