-- `write_accounts`: what holds in its loop over `pid`.
use Rattle.std.proofs.Common.{take}
use Rattle.std.specs.Io.KnownBytes.{Appends}
use Rattle.pt_accounts.specs.LivesState.{InEveryMerge}
use Rattle.pt_gathered.specs.Gathered.{begins, journals}
use Rattle.pt_report.specs.Summaries.{account_lines}
use Rattle.pt_report.proofs.summary.write_accounts.Given as goal

abbrev pub invariant-loop-pid : goal.invariant-loop-pid
invariant-loop-pid g l = InEveryMerge (journals l.quiet.gathered) (λ past.
    Appends (g.W.Write.contents l.initial.out) (g.W.Write.contents l.out) (account_lines (begins l.quiet.gathered) past (take l.pid-index l.pid-items)))
