-- `find_event`: what holds in its loop over `place`.
use Rattle.std.proofs.Common.{◌≡◌, drop}
use Rattle.pt_shell.specs.Looking.{event_in}
use Rattle.pt_shell.proofs.looking.find_event.Given as goal

abbrev pub invariant-loop-place : goal.invariant-loop-place
invariant-loop-place l = event_in l.events l.desk l.stamp ≡ event_in (drop l.place l.events) l.desk l.stamp
