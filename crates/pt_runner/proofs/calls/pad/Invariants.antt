-- `pad`: what holds in its loop, and that it ends.
use Rattle.std.proofs.Common.{◌≡◌, ◌+◌, ◌-◌, ◌<◌, vec_len, vec_capacity}
use Rattle.pt_runner.specs.Acting.{padded_to}
use Rattle.pt_runner.proofs.calls.pad.Given as goal

abbrev pub invariant-loop-references : goal.invariant-loop-references
invariant-loop-references l = record {
  padded : padded_to l.tag l.references.items ≡ padded_to l.tag l.fn.references.items;
  room : vec_len l.references + (l.tag - vec_len l.references) < vec_capacity l.references;
}

abbrev pub decreases-loop-references : goal.decreases-loop-references
decreases-loop-references l = l.tag - vec_len l.references
