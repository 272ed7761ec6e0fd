-- What a work does that is done once a journal is too long. No public clause cites this module.
use Rattle.std.specs.Prelude.{◌≡◌, ℕ, ◌<◌, ◌≤◌, Bool, false, cond, MatchBool, length}
use Rattle.pt_workers.specs.Running.{HearRelation, StepRelation}
use Rattle.pt_workers.specs.declared.work.Standing.{Standing}
use Rattle.pt_workers.specs.declared.work.Standing.TheVariants.{Going, Done}

pub record Watching (W : Type 0) : Type 0 where
  pub inner : W
  -- it is done once the journal has more than so many events
  pub events : ℕ
  -- whether it had behind the last turn
  pub long : Bool

module _ {W : Type 0} where
  -- the work before its first turn
  abbrev pub watch : ℕ → W → Watching W
  watch events w = record { inner = w; events = events; long = false }

  abbrev pub watched_standing : Watching W → Standing
  watched_standing w = cond w.long Done Going

  -- a step is one of the work
  abbrev pub WatchedDoes : StepRelation W → StepRelation (Watching W)
  WatchedDoes does old d new e = does old.inner d new.inner e × (new.events ≡ old.events)

  -- so is what it does that is told of a turn, and then it is known whether the journal is too long
  abbrev pub WatchedHears : HearRelation W → HearRelation (Watching W)
  WatchedHears hears old d turned new =
      hears old.inner d turned new.inner × (new.events ≡ old.events)
      × MatchBool new.long (old.events < length d.shard.journal) (length d.shard.journal ≤ old.events)
