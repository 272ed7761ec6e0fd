-- `DeskLives::latest_ends`: what holds in its loop over `slot`.
use Rattle.std.proofs.Common.{◌≡◌, ◌++◌, map, take}
use Rattle.std.specs.Prelude.{filter_map}
use Rattle.pt_accounts.specs.DeskLives.{latest_end}
use Rattle.pt_accounts.proofs.desk_lives.DeskLives.latest_ends.Given as goal

abbrev pub invariant-loop-slot : goal.invariant-loop-slot
invariant-loop-slot l = l.ends.items ≡ l.fn.ends.items ++ map (λ p. (p, l.low)) (filter_map latest_end (take l.slot l.self.slots))
