-- `Directory::reopen`: what holds in its loop over `entry`.
use Rattle.std.proofs.Common.{◌≡◌, map, take}
use Rattle.pt_directory.specs.Views.{up_from}
use Rattle.pt_directory.specs.Seats.{reopened_seat}
use Rattle.pt_directory.proofs.directory.Directory.reopen.Given as goal

abbrev pub invariant-loop-entry : goal.invariant-loop-entry
invariant-loop-entry l = l.seats.items ≡ map (reopened_seat l.directory.name (take l.entry-index l.ended)) (up_from 0 l.desks)
