-- `DeskLives::list`: what holds in its loop over `slot`.
use Rattle.std.proofs.Common.{◌≡◌, ◌++◌, take}
use Rattle.pt_accounts.specs.DeskLives.{pids_in}
use Rattle.pt_accounts.proofs.desk_lives.DeskLives.list.Given as goal

abbrev pub invariant-loop-slot : goal.invariant-loop-slot
invariant-loop-slot l = l.pids.items ≡ l.fn.pids.items ++ pids_in (take l.slot l.self.slots)
