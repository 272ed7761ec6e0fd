-- `release`: what holds in its loop over `desk`.
use Rattle.std.proofs.Common.{◌≡◌, ◌+◌, ◌≤◌, ◌++◌, map, reverse, vec_len}
use Rattle.std.specs.Vec.{vec_capacity}
use Rattle.pt_workers.proofs.pairs.release.Given as goal

abbrev pub invariant-loop-desk : goal.invariant-loop-desk
invariant-loop-desk g l = record {
  desks : l.desks.items ++ map (λ p. p.0) (reverse l.pairs.items) ≡ map (λ p. p.0) l.fn.pairs.items;
  works : l.works.items ++ map (λ p. p.1) (reverse l.pairs.items) ≡ map (λ p. p.1) l.fn.pairs.items;
  desk_room : vec_len l.desks + vec_len l.pairs ≤ vec_capacity l.desks;
  work_room : vec_len l.works + vec_len l.pairs ≤ vec_capacity l.works;
}

abbrev pub decreases-loop-desk : goal.decreases-loop-desk
decreases-loop-desk g l = vec_len l.pairs
