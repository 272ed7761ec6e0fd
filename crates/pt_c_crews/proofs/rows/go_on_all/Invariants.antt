-- `go_on_all`: what holds in its loop over `k`.
use Rattle.std.proofs.Common.{map, reverse}
use Rattle.pt_c_crews.proofs.AlongRow.{GoneOn}
use Rattle.pt_c_crews.proofs.rows.go_on_all.Given as goal

abbrev pub invariant-loop-k : goal.invariant-loop-k
invariant-loop-k l = GoneOn (reverse l.history) (map (λ h. h.state) l.fn.crews) (map (λ h. h.state) l.crews) l.k
