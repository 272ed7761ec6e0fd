-- `Flights::with_exits`: what holds in its loop over `place`.
use Rattle.std.proofs.Common.{◌≡◌, ◌++◌, map, take}
use Rattle.pt_signal.specs.declared.signal.Signal.TheVariants.{LinkExit}
use Rattle.pt_signal.specs.Process.{sent}
use Rattle.pt_judge.proofs.judging.flights.Flights.with_exits.Given as goal

abbrev pub invariant-loop-place : goal.invariant-loop-place
invariant-loop-place l = l.flights ≡ l.fn.self ++ map (λ e. sent l.me e.0 (LinkExit e.1 l.reason)) (take l.place l.links)
