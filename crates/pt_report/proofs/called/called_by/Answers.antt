-- `called_by`: its loop over `desk`.
use Rattle.std.proofs.Common.{[], map, rules, arith}
use Rattle.std.specs.String.{string_bytes}
use Rattle.pt_chart.specs.Drawing.{called_given}
use Rattle.pt_chart.proofs.Numbering.{one_more}
use Rattle.pt_report.specs.Called.{called_on}
use Rattle.pt_report.proofs.called.called_by.Goals as goal

pub loop-desk-preserved : goal.loop-desk-preserved
loop-desk-preserved c =
    one_more (called_on (map string_bytes c.args.names.now)) [] (map called_given c.loop-desk.called.items) (map called_given c.call_those_on.new.called.items) c.args.runners.now c.loop-desk.desk c.index-runners-desk.result
    (omega arith) (search rules) c.loop-desk.invariant c.in_ok-call_those_on.ensures
