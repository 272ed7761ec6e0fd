-- The versions of a slot follow one another.
use Rattle.std.specs.Prelude.{◌≡◌, ℕ, ◌<◌, true}
use Rattle.pt_signal.specs.declared.pid.Pid.{Pid}
use Rattle.pt_events.specs.History.{is_ended}
use Rattle.pt_shard.specs.ShardState.{ShardState, phase_of}

-- p is of a slot of the desk and has a version, and those before it in its slot have ended
pub record IsInTurn (d : ShardState) (p : Pid) : Type 0 where
  pub here : p.shard ≡ d.number
  pub slot : p.slot < d.config.slots
  pub version : 0 < p.version
  pub before : (v : ℕ) → 0 < v → v < p.version → is_ended (phase_of d (record p { version = v })) ≡ true
