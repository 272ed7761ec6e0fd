-- `escaped`: its loop over `byte`.
use Rattle.std.proofs.Common.{[]}
use Rattle.pt_chart.specs.Text.{escape_one}
use Rattle.pt_chart.proofs.Writing.{written_next}
use Rattle.pt_chart.proofs.text.escaped.Goals as goal

pub loop-byte-preserved : goal.loop-byte-preserved
loop-byte-preserved c = written_next escape_one c.args.bytes.now c.loop-byte.byte-index 0 [] _ _ c.loop-byte-test.true c.loop-byte.invariant c.in_ok-push_escaped.ensures
