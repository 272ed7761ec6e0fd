-- `empty_all`: what holds in its loop over `outs`.
use Rattle.std.proofs.Common.{◌≡◌, ℕ, ◌+◌, ◌*◌, ◌<◌, ◌≤◌, [], take, vec_len, slice_index_or}
use Rattle.pt_carrier.specs.Node.{lists, entry}
use Rattle.pt_carrier.specs.Reunion.{room_at, all_known}
use Rattle.pt_carrier.proofs.reunion.empty_all.Given as goal

abbrev pub invariant-loop-outs : goal.invariant-loop-outs
invariant-loop-outs l = record {
  count : vec_len l.pairs ≤ vec_len l.initial.pairs;
  rest : l.pairs.items ≡ take (vec_len l.pairs) l.initial.pairs.items;
  todo : (d e : ℕ) → d < vec_len l.initial.pairs → e < vec_len l.pairs → room_at l.left (d * vec_len l.initial.pairs + e) ≡ room_at l.initial.left (d * vec_len l.initial.pairs + e);
  done : (d e : ℕ) → d < vec_len l.initial.pairs → vec_len l.pairs ≤ e → e < vec_len l.initial.pairs → slice_index_or (lists l.left) (d * vec_len l.initial.pairs + e) [] ≡ entry (all_known l.initial.pairs.items) e d;
}

abbrev pub decreases-loop-outs : goal.decreases-loop-outs
decreases-loop-outs l = vec_len l.pairs
