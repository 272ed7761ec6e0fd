-- `place`: one more process is on its desk.
use Rattle.pt_script.proofs.Spreading.{next_placed}
use Rattle.pt_script.proofs.script.place.Goals as goal

pub loop-desk-preserved : goal.loop-desk-preserved
loop-desk-preserved c = next_placed c.loop-desk.desk c.args.tops.now c.loop-desk.tops _ c.loop-desk-test.true c.loop-desk.invariant
