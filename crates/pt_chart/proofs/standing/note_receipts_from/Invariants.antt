-- `note_receipts_from`: what holds in its loop over `arrow`.
use Rattle.std.proofs.Common.{take}
use Rattle.std.specs.List.{list_any}
use Rattle.pt_chart.specs.Rows.{comes_next}
use Rattle.pt_chart.specs.Standing.{Notes}
use Rattle.pt_chart.proofs.standing.note_receipts_from.Given as goal

abbrev pub invariant-loop-arrow : goal.invariant-loop-arrow
invariant-loop-arrow l = Notes (λ i. list_any (comes_next l.events i) (take l.arrow-index l.column.arrows.items)) l.fn.follows l.follows
