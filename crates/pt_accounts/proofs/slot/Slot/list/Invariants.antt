-- `Slot::list`: what holds in its loop over `place`.
use Rattle.std.proofs.Common.{◌≡◌, ◌++◌, take}
use Rattle.pt_accounts.specs.DeskLives.{pids_of}
use Rattle.pt_accounts.proofs.slot.Slot.list.Given as goal

abbrev pub invariant-loop-place : goal.invariant-loop-place
invariant-loop-place l = l.pids.items ≡ l.fn.pids.items ++ pids_of (take l.place l.self)
