-- `desks_of`: what holds in its loop over `step`.
use Rattle.std.proofs.Common.{◌≡◌, map, take}
use Rattle.pt_render.specs.Pages.{desks_told, step_told}
use Rattle.pt_render.proofs.writing.desks_of.Given as goal

abbrev pub invariant-loop-step : goal.invariant-loop-step
invariant-loop-step l = l.desks ≡ desks_told (map step_told (take l.step-index l.steps))
