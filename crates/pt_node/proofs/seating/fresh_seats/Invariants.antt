-- `fresh_seats`: what holds in its loop over `seat`.
use Rattle.std.proofs.Common.{◌≡◌, ◌+◌, ◌≤◌, ◌++◌, map, reverse, vec_len}
use Rattle.std.specs.Vec.{vec_capacity}
use Rattle.std.specs.Arc.{arc_value}
use Rattle.pt_directory.specs.Views.{up_from}
use Rattle.pt_directory.specs.Seats.{reopened_seat}
use Rattle.pt_node.specs.Seating.{Seated}
use Rattle.pt_node.proofs.seating.fresh_seats.Given as goal

abbrev pub invariant-loop-seat : goal.invariant-loop-seat
invariant-loop-seat l = record {
  shape : ((arc_value l.directory).desks ≡ l.fn.config.desks) × ((arc_value l.directory).slots ≡ l.fn.config.slots);
  all : ◌++◌ {A = Seated} (map (λ p. (arc_value p.0, p.1)) l.seated.items) (map (λ s. (arc_value l.directory, s)) (reverse l.seats.items)) ≡ map (λ n. (arc_value l.directory, reopened_seat (arc_value l.directory).name l.fn.ended n)) (up_from 0 l.fn.config.desks);
  room : vec_len l.seated + vec_len l.seats ≤ vec_capacity l.seated;
}

abbrev pub decreases-loop-seat : goal.decreases-loop-seat
decreases-loop-seat l = vec_len l.seats
