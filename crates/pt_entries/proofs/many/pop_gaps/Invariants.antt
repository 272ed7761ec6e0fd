-- `pop_gaps`: what holds in its loop over `places`.
use Rattle.std.proofs.Common.{◌≡◌, ◌≤◌, length}
use Rattle.std.specs.HashMap.{spare}
use Rattle.std.specs.List.{IsDistinct}
use Rattle.std.specs.Map.{keys_of}
use Rattle.pt_entries.specs.Gaps.{present}
use Rattle.pt_entries.proofs.many.pop_gaps.Given as goal

abbrev pub invariant-loop-places : goal.invariant-loop-places
invariant-loop-places g l = record {
  entries : present l.places.entries ≡ present l.initial.places.entries;
  distinct : IsDistinct g.K.PartialEq.eq (keys_of l.places.entries);
  room : spare l.initial.places ≤ spare l.places;
}

abbrev pub decreases-loop-places : goal.decreases-loop-places
decreases-loop-places g l = length l.places.entries
