-- `count`: what holds in its loop over `which`.
use Rattle.std.proofs.Common.{ℕ, ◌<◌}
use Rattle.pt_events.specs.JournalState.{IsInOrder}
use Rattle.pt_judge.specs.Race.{desk_at, past_at}
use Rattle.pt_judge.proofs.merging.count.Given as goal

abbrev pub invariant-loop-which : goal.invariant-loop-which
invariant-loop-which l = (j : ℕ) → j < l.which → IsInOrder (desk_at l.journals j) (past_at l.journals j)
