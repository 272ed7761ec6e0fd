-- `release_all`: what holds in its loop over `work`.
use Rattle.std.proofs.Common.{◌≡◌, ◌+◌, ◌≤◌, ◌++◌, map, reverse, vec_len}
use Rattle.std.specs.Vec.{vec_capacity}
use Rattle.pt_epochs.proofs.workers.release_all.Given as goal

abbrev pub invariant-loop-work : goal.invariant-loop-work
invariant-loop-work g l = record {
  crews : l.crews.items ++ map (λ w. w.inner) (reverse l.works.items) ≡ map (λ w. w.inner) l.fn.works.items;
  room : vec_len l.crews + vec_len l.works ≤ vec_capacity l.crews;
}

abbrev pub decreases-loop-work : goal.decreases-loop-work
decreases-loop-work g l = vec_len l.works
