-- `widest_refusal`: what holds in its loop over `stamped`.
use Rattle.std.proofs.Common.{◌≡◌, take}
use Rattle.pt_chart.specs.Drawing.{widest_refusal}
use Rattle.pt_chart.proofs.drawing.widest_refusal.Given as goal

abbrev pub invariant-loop-stamped : goal.invariant-loop-stamped
invariant-loop-stamped l = l.widest ≡ widest_refusal 12 (take l.stamped-index l.events)
