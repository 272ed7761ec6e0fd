-- `make_room`: what holds in its loop over `d` and `e`.
use Rattle.std.proofs.Common.{◌≡◌, ℕ, ◌+◌, ◌*◌, ◌<◌, length, vec_len}
use Rattle.pt_carrier.specs.Node.{entry}
use Rattle.pt_carrier.specs.Reunion.{VectorHasRoom, all_known}
use Rattle.pt_carrier.proofs.reunion.make_room.Given as goal

abbrev pub invariant-loop-d : goal.invariant-loop-d
invariant-loop-d l = record {
  count : vec_len l.lanes ≡ l.d * length l.pairs;
  room : (i j : ℕ) → i < l.d → j < length l.pairs → VectorHasRoom (entry (all_known l.pairs) j i) l.lanes.items (i * length l.pairs + j);
}

abbrev pub invariant-loop-e : goal.invariant-loop-e
invariant-loop-e l = record {
  count : vec_len l.lanes ≡ l.d * length l.pairs + l.e;
  room : (i j : ℕ) → i < l.d → j < length l.pairs → VectorHasRoom (entry (all_known l.pairs) j i) l.lanes.items (i * length l.pairs + j);
  row : (j : ℕ) → j < l.e → VectorHasRoom (entry (all_known l.pairs) j l.d) l.lanes.items (l.d * length l.pairs + j);
}
