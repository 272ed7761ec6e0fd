-- `LinesArchive::keep`: what holds in its loop over `event`.
use Rattle.std.proofs.Common.{take}
use Rattle.example_uses.specs.Epochs.{AppendsLines}
use Rattle.example_uses.proofs.epochs.LinesArchive.keep.Given as goal

abbrev pub invariant-loop-event : goal.invariant-loop-event
invariant-loop-event g l = AppendsLines (g.W.Write.contents l.initial.self.out) (take l.event-index l.history) (g.W.Write.contents l.self.out)
