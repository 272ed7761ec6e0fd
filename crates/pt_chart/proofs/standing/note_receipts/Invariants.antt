-- `note_receipts`: what holds in its loop over `column`.
use Rattle.std.proofs.Common.{take}
use Rattle.pt_chart.specs.Rows.{follows_sending}
use Rattle.pt_chart.specs.Standing.{Notes}
use Rattle.pt_chart.proofs.standing.note_receipts.Given as goal

abbrev pub invariant-loop-column : goal.invariant-loop-column
invariant-loop-column l = Notes (follows_sending l.events (take l.column-index l.columns)) l.fn.follows l.follows
