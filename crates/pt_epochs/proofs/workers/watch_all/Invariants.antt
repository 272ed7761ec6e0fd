-- `watch_all`: what holds in its loop over `crew`.
use Rattle.std.proofs.Common.{◌≡◌, ◌+◌, ◌≤◌, ◌++◌, map, reverse, vec_len}
use Rattle.std.specs.Vec.{vec_capacity}
use Rattle.pt_epochs.specs.Watching.{watch}
use Rattle.pt_epochs.proofs.workers.watch_all.Given as goal

abbrev pub invariant-loop-crew : goal.invariant-loop-crew
invariant-loop-crew g l = record {
  works : l.works.items ++ map (watch l.events) (reverse l.crews.items) ≡ map (watch l.events) l.fn.crews.items;
  room : vec_len l.works + vec_len l.crews ≤ vec_capacity l.works;
  kept : vec_capacity l.crews ≡ vec_capacity l.fn.crews;
}

abbrev pub decreases-loop-crew : goal.decreases-loop-crew
decreases-loop-crew g l = vec_len l.crews
