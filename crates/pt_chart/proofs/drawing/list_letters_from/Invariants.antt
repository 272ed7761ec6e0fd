-- `list_letters_from`: what holds in its loop over `arrow`.
use Rattle.std.proofs.Common.{◌≡◌, ◌++◌, map, take}
use Rattle.pt_chart.specs.Drawing.{column_letter}
use Rattle.pt_chart.proofs.drawing.list_letters_from.Given as goal

abbrev pub invariant-loop-arrow : goal.invariant-loop-arrow
invariant-loop-arrow l = l.listed.items ≡ l.fn.listed.items ++ map (column_letter l.rows l.columns l.place) (take l.arrow-index l.shown.arrows.items)
