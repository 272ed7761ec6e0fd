-- `alive_in`: what holds in its loop over `place`.
use Rattle.std.proofs.Common.{◌≡◌, ◌-◌, ◌^◌, take}
use Rattle.std.specs.Prelude.{min, sum_by}
use Rattle.std.specs.List.{zip}
use Rattle.pt_report.specs.Epochs.{alive_on}
use Rattle.pt_report.proofs.running.alive_in.Given as goal

abbrev pub invariant-loop-place : goal.invariant-loop-place
invariant-loop-place l = l.alive ≡ min (sum_by alive_on (take l.place (zip l.desks l.runners))) (2 ^ 64 - 1)
