-- `count_crews`: what holds in its loop over `k`.
use Rattle.std.proofs.Common.{◌≡◌, List, ◌++◌, map, length}
use Rattle.pt_scheduler.specs.declared.scheduler.Scheduler.{Scheduler}
use Rattle.pt_c_values.specs.Places.{HandlePlace, values}
use Rattle.pt_c_crews.proofs.rows.count_crews.Given as goal

abbrev pub invariant-loop-k : goal.invariant-loop-k
invariant-loop-k l = record {
  same : map (λ h. h.state) l.crews ≡ map (λ h. h.state) l.fn.crews;
  split : (seen : List (HandlePlace Scheduler)) × (rest : List (HandlePlace Scheduler))
      × (map (λ h. h.state) l.fn.crews ≡ seen ++ rest) × (length seen ≡ l.k) × (l.count ≡ length (values seen));
}
