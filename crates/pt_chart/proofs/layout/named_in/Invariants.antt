-- `named_in`: what holds in its loop over `at`.
use Rattle.std.proofs.Common.{◌≡◌, take}
use Rattle.pt_chart.specs.Desks.{named}
use Rattle.pt_chart.proofs.layout.named_in.Given as goal

abbrev pub invariant-loop-at : goal.invariant-loop-at
invariant-loop-at l = l.set.keys ≡ named (take l.at l.events)
