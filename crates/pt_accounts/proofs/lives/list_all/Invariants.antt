-- `list_all`: what holds in its loop over `desk`.
use Rattle.std.proofs.Common.{◌≡◌, ◌++◌, take}
use Rattle.pt_accounts.specs.LivesState.{all_pids}
use Rattle.pt_accounts.proofs.lives.list_all.Given as goal

abbrev pub invariant-loop-desk : goal.invariant-loop-desk
invariant-loop-desk l = l.pids.items ≡ l.fn.pids.items ++ all_pids (take l.desk l.desks)
