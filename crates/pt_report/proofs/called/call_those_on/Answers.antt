-- `call_those_on`: its loop over `process`.
use Rattle.std.proofs.Common.{map, arith, None}
use Rattle.std.specs.String.{string_bytes}
use Rattle.pt_chart.specs.Drawing.{called_given}
use Rattle.pt_chart.proofs.Numbering.{one_more_at}
use Rattle.pt_report.specs.Called.{called_one}
use Rattle.pt_report.proofs.called.call_those_on.Goals as goal

pub loop-process-preserved : goal.loop-process-preserved
loop-process-preserved c =
    one_more_at (called_one (map string_bytes c.args.names.now) c.args.desk) (map called_given c.args.called.now.items) (map called_given c.loop-process.called.items) (map called_given c.call.new.called.items) c.pids-pids.result.now c.loop-process.process None
    (omega arith) c.loop-process.invariant c.in_ok-call.ensures
