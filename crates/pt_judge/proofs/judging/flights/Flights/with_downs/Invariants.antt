-- `Flights::with_downs`: what holds in its loop over `place`.
use Rattle.std.proofs.Common.{◌≡◌, ◌++◌, map, take}
use Rattle.pt_signal.specs.declared.signal.Signal.{Signal}
use Rattle.pt_signal.specs.Process.{sent}
use Rattle.pt_judge.proofs.judging.flights.Flights.with_downs.Given as goal

abbrev pub invariant-loop-place : goal.invariant-loop-place
invariant-loop-place l = l.flights ≡ l.fn.self ++ map (λ k. sent l.me k.1 (Signal.Down k.0 l.reason)) (take l.place l.kept)
