-- `merge`: what holds in its loop over `event`.
use Rattle.std.proofs.Common.{◌≡◌, ◌<◌, length, reverse}
use Rattle.pt_judge.specs.Merging.{AreApart}
use Rattle.pt_judge.specs.Race.{next_key, winner_at, IsPlayed}
use Rattle.pt_judge.proofs.MergeStep.{IsMerging, left_total}
use Rattle.pt_judge.proofs.merging.merge.Given as goal

abbrev pub invariant-loop-event : goal.invariant-loop-event
invariant-loop-event l = record {
  same : length l.seats.items ≡ length l.journals;
  played : 0 < length l.journals → IsPlayed (next_key l.journals l.seats.items) (winner_at l.seats.items) 0 (length l.journals);
  merging : AreApart l.journals → IsMerging l.journals l.seats.items (reverse l.merged.items);
}

abbrev pub decreases-loop-event : goal.decreases-loop-event
decreases-loop-event l = left_total l.journals l.seats.items
