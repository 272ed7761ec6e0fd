-- `call_those_on`: what holds in its loop over `process`.
use Rattle.std.proofs.Common.{◌≡◌, ◌++◌, map, take}
use Rattle.std.specs.String.{string_bytes}
use Rattle.pt_chart.specs.Drawing.{called_given, each_numbered}
use Rattle.pt_report.specs.Called.{called_one}
use Rattle.pt_report.proofs.called.call_those_on.Given as goal

abbrev pub invariant-loop-process : goal.invariant-loop-process
invariant-loop-process l = map called_given l.called.items ≡ map called_given l.fn.called.items ++ each_numbered (called_one (map string_bytes l.names) l.desk) (take l.process l.pids)
