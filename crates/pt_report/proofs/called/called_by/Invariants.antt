-- `called_by`: what holds in its loop over `desk`.
use Rattle.std.proofs.Common.{◌≡◌, map, take}
use Rattle.std.specs.String.{string_bytes}
use Rattle.pt_chart.specs.Drawing.{called_given, each_numbered}
use Rattle.pt_report.specs.Called.{called_on}
use Rattle.pt_report.proofs.called.called_by.Given as goal

abbrev pub invariant-loop-desk : goal.invariant-loop-desk
invariant-loop-desk l = map called_given l.called.items ≡ each_numbered (called_on (map string_bytes l.names)) (take l.desk l.runners)
