-- `InLane::empty_into`: what holds in its loop over `k`.
use Rattle.std.proofs.Common.{◌≡◌, ◌+◌, ◌≤◌, length, ◌++◌, vec_len}
use Rattle.std.specs.Vec.{vec_capacity}
use Rattle.pt_carrier.proofs.lane.InLane.empty_into.Given as goal

abbrev pub invariant-loop-k : goal.invariant-loop-k
invariant-loop-k l = record {
  list : l.list.items ++ l.self.known ≡ l.initial.list.items ++ l.initial.self.known;
  left : length l.self.known + l._k ≡ length l.initial.self.known;
  room : vec_len l.list + length l.self.known ≤ vec_capacity l.list;
  capacity : vec_capacity l.list ≡ vec_capacity l.initial.list;
}
