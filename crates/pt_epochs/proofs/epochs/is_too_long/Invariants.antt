-- `is_too_long`: what holds in its loop over `place`.
use Rattle.std.proofs.Common.{ℕ, ◌<◌, ◌≤◌, length, get_or}
use Rattle.pt_desk.specs.DeskState.{DeskState}
use Rattle.pt_epochs.proofs.epochs.is_too_long.Given as goal

abbrev pub invariant-loop-place : goal.invariant-loop-place
invariant-loop-place l = (d : ℕ) (x : DeskState) → d < l.place → length (get_or l.desks d x).shard.journal ≤ l.events
