-- `own_end`: what holds in its loop over `op`.
use Rattle.std.proofs.Common.{◌≡◌, drop}
use Rattle.pt_report.specs.Notes.{own_text}
use Rattle.pt_report.proofs.notes.own_end.Given as goal

abbrev pub invariant-loop-op : goal.invariant-loop-op
invariant-loop-op l = own_text l.sources l.process l.reason 0 l.operations ≡ own_text l.sources l.process l.reason l.op (drop l.op l.operations)
