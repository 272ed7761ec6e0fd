-- `grow`: what holds in its loop over `alloc`.
use Rattle.std.proofs.Common.{◌≡◌, ◌+◌, ◌-◌, ℕ, length}
use Rattle.pt_accounts.specs.Table.{slot_at}
use Rattle.pt_accounts.proofs.desk_lives.grow.Given as goal

abbrev pub invariant-loop-alloc : goal.invariant-loop-alloc
invariant-loop-alloc l = (s : ℕ) → slot_at l.slots.items s ≡ slot_at l.fn.slots.items s

abbrev pub decreases-loop-alloc : goal.decreases-loop-alloc
decreases-loop-alloc l = l.slot + 1 - length l.slots.items
