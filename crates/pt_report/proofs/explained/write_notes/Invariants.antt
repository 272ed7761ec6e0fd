-- `write_notes`: what holds in its loop over `note`.
use Rattle.std.proofs.Common.{take}
use Rattle.std.specs.Io.KnownBytes.{Appends}
use Rattle.pt_accounts.specs.LivesState.{InEveryMerge}
use Rattle.pt_gathered.specs.Gathered.{begins, journals}
use Rattle.pt_report.specs.Summaries.{noted_lines}
use Rattle.pt_report.proofs.explained.write_notes.Given as goal

abbrev pub invariant-loop-note : goal.invariant-loop-note
invariant-loop-note g l = InEveryMerge (journals l.quiet.gathered) (λ past.
    Appends (g.W.Write.contents l.initial.out) (g.W.Write.contents l.out) (noted_lines (begins l.quiet.gathered) past (take l.note-index l.notes)))
