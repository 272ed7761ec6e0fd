-- `count_events`: what holds in its loop over `place`.
use Rattle.std.proofs.Common.{◌≡◌, ◌-◌, ◌^◌, min, take}
use Rattle.pt_workers.specs.Stillness.{count_events}
use Rattle.pt_shell.proofs.looking.count_events.Given as goal

abbrev pub invariant-loop-place : goal.invariant-loop-place
invariant-loop-place l = l.count ≡ min (count_events (take l.place l.desks)) (2 ^ 64 - 1)
