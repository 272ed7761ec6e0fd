-- `add_sends`: what holds in its loop, and that it ends.
use Rattle.std.proofs.Common.{◌≡◌, ◌++◌, map, length}
use Rattle.pt_auditor.specs.Changes.{did_send}
use Rattle.pt_auditor.proofs.begun.add_sends.Given as goal

abbrev pub invariant-loop-from : goal.invariant-loop-from
invariant-loop-from l = l.list.items ++ map did_send l.sent ≡ l.initial.list.items ++ map did_send l.initial.sent

abbrev pub decreases-loop-from : goal.decreases-loop-from
decreases-loop-from l = length l.sent
