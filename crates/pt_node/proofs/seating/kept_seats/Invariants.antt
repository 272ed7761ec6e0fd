-- `kept_seats`: what holds in its loop over `seat`.
use Rattle.std.proofs.Common.{◌≡◌, ◌+◌, ◌≤◌, ◌++◌, map, reverse, vec_len}
use Rattle.std.specs.Vec.{vec_capacity}
use Rattle.std.specs.Arc.{arc_value}
use Rattle.pt_directory.specs.Views.{up_from}
use Rattle.pt_directory.specs.Seats.{late_seat}
use Rattle.pt_node.specs.Seating.{Seated}
use Rattle.pt_node.proofs.seating.kept_seats.Given as goal

abbrev pub invariant-loop-seat : goal.invariant-loop-seat
invariant-loop-seat l = record {
  same : arc_value l.directory ≡ l.fn.kept.directory;
  all : ◌++◌ {A = Seated} (map (λ p. (arc_value p.0, p.1)) l.seated.items) (map (λ s. (l.fn.kept.directory, s)) (reverse l.seats.items)) ≡ map (λ n. (l.fn.kept.directory, late_seat l.fn.kept.directory.name l.fn.kept.seat.deaths l.fn.ended n)) (up_from 0 l.fn.desks);
  room : vec_len l.seated + vec_len l.seats ≤ vec_capacity l.seated;
}

abbrev pub decreases-loop-seat : goal.decreases-loop-seat
decreases-loop-seat l = vec_len l.seats
