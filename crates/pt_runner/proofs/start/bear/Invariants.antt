-- `bear`: what holds in its loop over `top`.
use Rattle.std.proofs.Common.{◌≡◌, vec_len, length}
use Rattle.std.specs.Vec.{vec_capacity}
use Rattle.pt_runner.proofs.Starting.{Begun}
use Rattle.pt_runner.proofs.start.bear.Given as goal

abbrev pub invariant-loop-top : goal.invariant-loop-top
invariant-loop-top l = record {
  begun : Begun l.fn.config l.script.tops l.top-index l.born.items l.desks;
  capacity : vec_capacity l.born ≡ length l.script.tops;
  counted : vec_len l.born ≡ l.top-index;
}
