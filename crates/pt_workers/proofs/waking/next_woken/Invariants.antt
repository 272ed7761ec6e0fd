-- `next_woken`: what holds in its loop over `place`.
use Rattle.std.proofs.Common.{◌≤◌, ◌-◌, length, max}
use Rattle.pt_workers.specs.Waking.{NobodyIn}
use Rattle.pt_workers.proofs.waking.next_woken.Given as goal

abbrev pub invariant-loop-place : goal.invariant-loop-place
invariant-loop-place l = record {
  from : l.fn.at ≤ l.place;
  to : l.place ≤ max l.fn.at (length l.events);
  nobody : NobodyIn l.events l.fn.at l.place;
}

abbrev pub decreases-loop-place : goal.decreases-loop-place
decreases-loop-place l = length l.events - l.place
