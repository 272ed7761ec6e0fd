-- `write_events`: what holds in its loop over `event`.
use Rattle.std.proofs.Common.{take}
use Rattle.std.specs.Io.KnownBytes.{Appends}
use Rattle.pt_report.specs.Lines.{lines}
use Rattle.pt_report.proofs.history.write_events.Given as goal

abbrev pub invariant-loop-event : goal.invariant-loop-event
invariant-loop-event g l = Appends (g.W.Write.contents l.initial.out) (g.W.Write.contents l.out) (lines l.form (take l.event-index l.events))
