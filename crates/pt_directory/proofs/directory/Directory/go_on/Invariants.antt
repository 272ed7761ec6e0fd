-- `Directory::go_on`: what holds in its loop over `entry`.
use Rattle.std.proofs.Common.{◌≡◌, map, take}
use Rattle.pt_directory.specs.Views.{up_from}
use Rattle.pt_directory.specs.Seats.{late_seat}
use Rattle.pt_directory.proofs.directory.Directory.go_on.Given as goal

abbrev pub invariant-loop-entry : goal.invariant-loop-entry
invariant-loop-entry l = l.seats.items ≡ map (late_seat l.self.name l.fn.seat.deaths (take l.entry-index l.ended)) (up_from 0 l.self.desks)
