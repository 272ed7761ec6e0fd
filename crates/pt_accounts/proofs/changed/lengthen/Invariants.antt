-- `lengthen`: what holds in its loop over `listed`.
use Rattle.std.proofs.Common.{◌≡◌, ◌+◌, ◌-◌, ℕ, false, get_or, length}
use Rattle.pt_accounts.proofs.changed.lengthen.Given as goal

abbrev pub invariant-loop-listed : goal.invariant-loop-listed
invariant-loop-listed l = (s : ℕ) → get_or l.listed.items s false ≡ get_or l.fn.listed.items s false

abbrev pub decreases-loop-listed : goal.decreases-loop-listed
decreases-loop-listed l = l.slot + 1 - length l.listed.items
