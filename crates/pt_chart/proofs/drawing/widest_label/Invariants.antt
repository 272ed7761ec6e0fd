-- `widest_label`: what holds in its loop over `letter`.
use Rattle.std.proofs.Common.{◌≡◌, take}
use Rattle.pt_chart.specs.Drawing.{widest_beside}
use Rattle.pt_chart.proofs.drawing.widest_label.Given as goal

abbrev pub invariant-loop-letter : goal.invariant-loop-letter
invariant-loop-letter l = l.widest ≡ widest_beside l.room (take l.letter-index l.letters)
