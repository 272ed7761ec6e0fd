-- `assign`: what holds in its loop over `desk`.
use Rattle.std.proofs.Common.{◌≡◌, ◌+◌, ◌≤◌, ◌++◌, map, reverse, vec_len}
use Rattle.std.specs.Vec.{vec_capacity}
use Rattle.pt_workers.proofs.pairs.assign.Given as goal

abbrev pub invariant-loop-desk : goal.invariant-loop-desk
invariant-loop-desk g l = record {
  desks : map (λ p. p.0) l.pairs.items ++ reverse l.desks.items ≡ l.fn.desks.items;
  works : map (λ p. p.1) l.pairs.items ++ reverse l.works.items ≡ l.fn.works.items;
  as_many : vec_len l.works ≡ vec_len l.desks;
  room : vec_len l.pairs + vec_len l.desks ≤ vec_capacity l.pairs;
  kept : (vec_capacity l.desks ≡ vec_capacity l.fn.desks) × (vec_capacity l.works ≡ vec_capacity l.fn.works);
}

abbrev pub decreases-loop-desk : goal.decreases-loop-desk
decreases-loop-desk g l = vec_len l.desks
