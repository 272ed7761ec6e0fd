-- `hurry_all`: one more process is hurried.
use Rattle.pt_script.specs.Unrolling.{hurried_plan}
use Rattle.pt_script.proofs.Hurrying.{next_mapped}
use Rattle.pt_script.proofs.script.hurry_all.Goals as goal

pub loop-number-preserved : goal.loop-number-preserved
loop-number-preserved c = next_mapped hurried_plan c.loop-number.number c.args.processes.now c.loop-number.processes _ _ c.loop-number-test.true c.loop-number.invariant c.hurry.ensures
