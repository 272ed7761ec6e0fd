-- Who lives on a desk, slot by slot, and how many do.
use Rattle.std.specs.Prelude.{ℕ, cond, count_by, is_some, List, Option, Some, None}
use Rattle.std.specs.List.{filter_map, range_with_len}
use Rattle.pt_signal.specs.declared.pid.Pid.{Pid}
use Rattle.pt_shard.specs.ShardState.{ShardState, lives}
use Rattle.pt_shard.specs.Fit.{latest_pid}

-- the process that lives in the slot: the one that had it last, if it lives
abbrev pub living_in : ShardState → ℕ → Option Pid
living_in d slot = cond (lives d (latest_pid d slot)) (Some (latest_pid d slot)) None

-- how many processes live on the desk: in so many of its slots one does
abbrev pub living_count : ShardState → ℕ
living_count d = count_by (λ slot. is_some (living_in d slot)) (range_with_len 0 d.config.slots)

-- who lives on the desk, by slot
abbrev pub living_pids : ShardState → List Pid
living_pids d = filter_map (living_in d) (range_with_len 0 d.config.slots)
