-- Lemmas on single calls.
use Rattle.std.proofs.Common.{◌≡◌, ℕ, ℤ, true, false, Some, Result, Ok, refl}
use Rattle.std.specs.Prelude.{slice_get}
use Rattle.indexmap.specs.IndexMap.{set_value_at}
use Rattle.pt_signal.specs.declared.pid.Pid.{Pid}
use Rattle.pt_shard.specs.declared.fault.Fault.{Fault}
use Rattle.pt_signal.specs.declared.signal.Signal.{Signal}
use Rattle.pt_events.specs.declared.event.Event.TheVariants.{Said}
use Rattle.pt_shard.specs.ShardState.{ShardState, lives}
use Rattle.pt_shard.specs.Known.{knows}
use Rattle.pt_desk.specs.DeskState.{DeskState}
use Rattle.pt_desk.specs.Reaching.{Reaches}
use Rattle.pt_workers.proofs.Reached.{reached}
use Rattle.example_uses.specs.Telling.{SaysTo, unheard}
use Rattle.pt_shard.specs.Calls.{Calls}
use Rattle.example_uses.specs.Games.{Monsters, SeesToMonster, SeesToAt}

-- a message to a pid that the desk knows
pub says : (from to : Pid) (signal : Signal) (old new : DeskState) (answer r : Result (Unit {0}) Fault) → knows old.shard to ≡ true
    → Reaches (lives old.shard from) from to (Calls from (Some (Said from to signal)) (tt {0}) old.shard answer new.shard) old answer new → r ≡ unheard answer → SaysTo from to signal old.shard r new.shard
unfolding SaysTo
says from to signal old new answer r known does is =
    rw known (answer, reached (lives old.shard from) from to (Calls from (Some (Said from to signal)) (tt {0}) old.shard answer new.shard) old answer new does, is)

-- one to a pid that it does not know
pub says_nothing : (from to : Pid) (signal : Signal) (old : ShardState) → knows old to ≡ false → SaysTo from to signal old (Ok tt) old
unfolding SaysTo
says_nothing from to signal old known = rw known (refl, refl)

-- the monster at a place was seen to
pub seen_at : (place : ℕ) (old : ShardState × Monsters) (monster : Pid × ℤ) (r : Result (Unit {0}) Fault) (new : ShardState) (health : ℤ) → slice_get old.1 place ≡ Some monster → SeesToMonster monster.0 (old.0, monster.1) r (new, health) → SeesToAt place old r (new, set_value_at old.1 place health)
seen_at place old monster r new health e sees = rw e (health, sees, refl)
