-- `events_of`: what holds in its loop over `place`.
use Rattle.std.proofs.Common.{◌≡◌, ◌++◌, drop}
use Rattle.pt_shell.specs.Stepping.{without_stamps}
use Rattle.pt_shell.proofs.looking_back.events_of.Given as goal

abbrev pub invariant-loop-place : goal.invariant-loop-place
invariant-loop-place l = l.events.items ++ without_stamps (drop l.place l.history) ≡ without_stamps l.history
