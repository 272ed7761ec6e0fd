-- `forget_changed`: what holds in its loop over `slot`.
use Rattle.std.proofs.Common.{◌≡◌, ℕ, map, length}
use Rattle.pt_accounts.specs.DeskLives.{forgotten}
use Rattle.pt_accounts.specs.Table.{slot_at}
use Rattle.pt_accounts.specs.Changed.{OthersAreForgotten}
use Rattle.pt_accounts.proofs.desk_lives.forget_changed.Given as goal

abbrev pub invariant-loop-slot : goal.invariant-loop-slot
invariant-loop-slot l = record {
  len : length l.slots.items ≡ length l.fn.slots.items;
  same : (s : ℕ) → map forgotten (slot_at l.slots.items s) ≡ map forgotten (slot_at l.fn.slots.items s);
  others : OthersAreForgotten l.changed l.slots.items;
}

abbrev pub decreases-loop-slot : goal.decreases-loop-slot
decreases-loop-slot l = length l.changed
