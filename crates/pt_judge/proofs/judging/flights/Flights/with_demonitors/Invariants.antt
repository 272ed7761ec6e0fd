-- `Flights::with_demonitors`: what holds in its loop over `place`.
use Rattle.std.proofs.Common.{◌≡◌, ◌++◌, map, take}
use Rattle.pt_signal.specs.declared.signal.Signal.TheVariants.{Demonitor}
use Rattle.pt_signal.specs.Process.{sent}
use Rattle.pt_judge.proofs.judging.flights.Flights.with_demonitors.Given as goal

abbrev pub invariant-loop-place : goal.invariant-loop-place
invariant-loop-place l = l.flights ≡ l.fn.self ++ map (λ m. sent l.me m.1 (Demonitor m.0)) (take l.place l.watching)
