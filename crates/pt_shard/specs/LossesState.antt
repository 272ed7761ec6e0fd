-- What a desk keeps of what it lost, as its owner sees it. No public clause cites this module.
use Rattle.std.specs.Prelude.{ℕ, Bool, List}
use Rattle.pt_shard.specs.declared.loss.Loss.{Loss}

pub record LossesState : Type 0 where
  -- whether losses are kept
  pub keeps : Bool
  -- those kept and not told yet, the oldest first
  pub kept : List Loss
  -- how many more are sure to find room
  pub room : ℕ
