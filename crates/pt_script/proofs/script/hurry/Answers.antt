-- `hurry`: one more operation is hurried.
use Rattle.pt_script.specs.Unrolling.{hurried_operation}
use Rattle.pt_script.proofs.Hurrying.{next_mapped}
use Rattle.pt_script.proofs.script.hurry.Goals as goal

pub loop-place-preserved : goal.loop-place-preserved
loop-place-preserved c = next_mapped hurried_operation c.loop-place.place c.args.operations.now c.loop-place.operations _ _ c.loop-place-test.true c.loop-place.invariant c.at_once.ensures
