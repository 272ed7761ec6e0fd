-- `add_ends`: what holds in its loop over `k`.
use Rattle.std.proofs.Common.{◌≡◌, ◌≤◌, ◌++◌, ◌-◌, length, min, take}
use Rattle.pt_accounts.specs.DeskLives.{oldest}
use Rattle.pt_gathered.specs.Late.{ends_in}
use Rattle.pt_gathered.proofs.settled.add_ends.Given as goal

abbrev pub invariant-loop-k : goal.invariant-loop-k
invariant-loop-k l = record {
  from : min l.place (length l.journal.past) ≤ l.k;
  within : l.k ≤ length l.journal.past;
  ends : l.ends.items ≡ l.fn.ends.items ++ ends_in l.table l.stamp (take (l.k - min l.place (length l.journal.past)) (oldest l.k l.journal.past));
}
