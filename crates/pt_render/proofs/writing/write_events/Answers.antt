-- `write_events`: its loop over `step`.
use Rattle.std.proofs.Common.{rules}
use Rattle.pt_render.specs.Pages.{step_line, step_told}
use Rattle.pt_render.proofs.Appending.{told_more}
use Rattle.pt_render.proofs.writing.write_events.Goals as goal

pub loop-step-preserved : goal.loop-step-preserved
loop-step-preserved g c =
    told_more step_line step_told c.args.steps.now c.loop-step.step-index c.step-item.result (g.W.Write.contents c.args.out.now) (g.W.Write.contents c.loop-step.out) (g.W.Write.contents c.write_event.new.out) c.loop-step-test.true
    (search rules) c.loop-step.invariant c.in_ok-write_event.ensures
