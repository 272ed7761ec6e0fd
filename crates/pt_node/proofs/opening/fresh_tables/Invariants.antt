-- `fresh_tables`: what holds in its loop over `number`.
use Rattle.std.proofs.Common.{◌≡◌, ℕ, ◌<◌, get_or, vec_len}
use Rattle.pt_accounts.specs.DeskLives.{DeskTable}
use Rattle.pt_node.specs.Opening.{fresh_table}
use Rattle.pt_node.proofs.opening.fresh_tables.Given as goal

abbrev pub invariant-loop-number : goal.invariant-loop-number
invariant-loop-number l = record {
  count : vec_len l.tables ≡ l.number;
  each : (d : ℕ) (x : DeskTable) → d < l.number → get_or l.tables.items d x ≡ fresh_table d;
}
