-- `rested`: what holds in its loop over `work`.
use Rattle.std.proofs.Common.{◌≡◌, ◌+◌, ◌≤◌, ◌++◌, reverse, vec_len}
use Rattle.std.specs.Vec.{vec_capacity}
use Rattle.example_scenes.proofs.stage.rested.Given as goal

abbrev pub invariant-loop-work : goal.invariant-loop-work
invariant-loop-work g l = record {
  all : l.within.items ++ reverse l.left.items ≡ l.fn.works.items;
  room : vec_len l.within + vec_len l.left ≤ vec_capacity l.within;
}

abbrev pub decreases-loop-work : goal.decreases-loop-work
decreases-loop-work g l = vec_len l.left
