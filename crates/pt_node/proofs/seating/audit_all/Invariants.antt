-- `audit_all`: what holds in its loop over `directory`.
use Rattle.std.proofs.Common.{◌≡◌, map, reverse, vec_len}
use Rattle.std.specs.Arc.{arc_value}
use Rattle.pt_directory.specs.Seats.{join_seats}
use Rattle.pt_node.specs.Seating.{AreOf, together}
use Rattle.pt_node.proofs.seating.audit_all.Given as goal

abbrev pub invariant-loop-directory : goal.invariant-loop-directory
invariant-loop-directory l = record {
  seat : l.seat.name ≡ (arc_value l.directory).name;
  rest : AreOf (arc_value l.directory).name (map (λ p. (arc_value p.0, p.1)) (reverse l.seats.items));
  all : join_seats l.seat (together (arc_value l.directory).name (map (λ p. (arc_value p.0, p.1)) (reverse l.seats.items))) ≡ together (arc_value l.directory).name (map (λ p. (arc_value p.0, p.1)) l.fn.seats.items);
}

abbrev pub decreases-loop-directory : goal.decreases-loop-directory
decreases-loop-directory l = vec_len l.seats
