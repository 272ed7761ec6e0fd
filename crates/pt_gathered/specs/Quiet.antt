-- A node in which no letter is left over, as its callers see it.
use Rattle.std.specs.Prelude.{◌≡◌, ℕ, zero, suc, ◌<◌, false, List, length, map, flat_map, max, slice_index_or}
use Rattle.pt_signal.specs.declared.pid.Pid.{Pid}
use Rattle.pt_events.specs.History.{is_unborn}
use Rattle.pt_events.specs.Journal.{clock}
use Rattle.pt_shard.specs.ShardState.{ShardState, phase_of}
use Rattle.pt_shard.specs.InTurn.{IsInTurn}
use Rattle.pt_accounts.specs.DeskLives.{latest_ends}
use Rattle.pt_accounts.specs.LivesState.{Lives, AreLivesOf}
use Rattle.pt_gathered.specs.Gathered.{GatheredState, begins, journals}
use Rattle.pt_gathered.specs.Settling.{NothingLeft}
use Rattle.pt_gathered.specs.Tables.{AreTables}

pub record QuietState : Type 0 where
  pub gathered : GatheredState
  -- how many letters settling handled
  pub handled : ℕ
  -- what became of the processes, desk by desk
  pub lives : Lives

-- nothing is left over, and the lives are those that the journals tell, desk by desk
pub record IsSettled (g : GatheredState) (lives : Lives) : Type 0 where
  pub nothing_left : NothingLeft g
  pub count : length lives ≡ length g.shards
  pub tables : AreTables g.shards lives
  pub lives_are : AreLivesOf (begins g) (journals g) lives

-- the greatest stamp of the desks below n, or the number above which stamps began
abbrev pub latest_below : GatheredState → ℕ → ℕ
latest_below g zero = g.config.start
latest_below g (suc d) = max (clock g.config.start (journals g d)) (latest_below g d)

abbrev pub latest_stamp : GatheredState → ℕ
latest_stamp g = latest_below g (length g.shards)

-- of each slot in which a process has ended the latest, desk by desk, each with the stamp
abbrev pub ends_of : ℕ → Lives → List (Pid × ℕ)
ends_of n lives = flat_map (λ t. map (λ p. (p, n)) (latest_ends t)) lives

-- whoever was born on a desk is of one of its slots, and the versions of a slot follow one another
abbrev pub AreInTurn : List ShardState → Type 0
AreInTurn shards =
    (d : ℕ) (x : ShardState) → d < length shards → (p : Pid)
    → is_unborn (phase_of (slice_index_or shards d x) p) ≡ false → IsInTurn (slice_index_or shards d x) p

-- and was born at a stamp that is not 0
abbrev pub AreBornLater : GatheredState → Type 0
AreBornLater g =
    (d : ℕ) (x : ShardState) → d < length g.shards → (p : Pid)
    → is_unborn (phase_of (slice_index_or g.shards d x) p) ≡ false → 0 < latest_stamp g
