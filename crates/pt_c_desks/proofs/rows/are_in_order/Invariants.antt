-- `are_in_order`: what holds in its loop over `k`.
use Rattle.std.proofs.Common.{◌≡◌, map}
use Rattle.pt_c_desks.proofs.AlongRow.{InOrderSoFar}
use Rattle.pt_c_desks.proofs.rows.are_in_order.Given as goal

abbrev pub invariant-loop-k : goal.invariant-loop-k
invariant-loop-k l = record {
  same : map (λ h. h.state) l.desks ≡ map (λ h. h.state) l.fn.desks;
  looked : InOrderSoFar l.count (map (λ h. h.state) l.fn.desks) l.k;
}
