-- `write_events`: what holds in its loop over `step`.
use Rattle.std.proofs.Common.{map, take}
use Rattle.std.specs.Io.KnownBytes.{Appends}
use Rattle.pt_render.specs.Pages.{step_lines, step_told}
use Rattle.pt_render.proofs.writing.write_events.Given as goal

abbrev pub invariant-loop-step : goal.invariant-loop-step
invariant-loop-step g l = Appends (g.W.Write.contents l.initial.out) (g.W.Write.contents l.out) (step_lines (map step_told (take l.step-index l.steps)))
