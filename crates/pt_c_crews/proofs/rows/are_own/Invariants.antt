-- `are_own`: what holds in its loop over `k`.
use Rattle.std.proofs.Common.{◌≡◌, map}
use Rattle.pt_c_crews.proofs.AlongRow.{OwnSoFar}
use Rattle.pt_c_crews.proofs.rows.are_own.Given as goal

abbrev pub invariant-loop-k : goal.invariant-loop-k
invariant-loop-k l = record {
  same : map (λ h. h.state) l.crews ≡ map (λ h. h.state) l.fn.crews;
  looked : OwnSoFar (map (λ h. h.state) l.fn.crews) l.k;
}
