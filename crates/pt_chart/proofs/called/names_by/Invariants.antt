-- `names_by`: what holds in its loop over `column`.
use Rattle.std.proofs.Common.{◌≡◌, map, take}
use Rattle.pt_chart.specs.Drawing.{called_given, column_names}
use Rattle.pt_chart.proofs.called.names_by.Given as goal

abbrev pub invariant-loop-column : goal.invariant-loop-column
invariant-loop-column l = map (λ n. n.now) l.names.items ≡ column_names (map called_given l.called) (take l.column-index l.columns)
