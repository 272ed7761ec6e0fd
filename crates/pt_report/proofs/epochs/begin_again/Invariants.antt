-- `begin_again`: what holds in its loop over `index`.
use Rattle.std.proofs.Common.{◌≡◌, vec_len}
use Rattle.pt_report.proofs.Attending.{BeganAgain}
use Rattle.pt_report.proofs.epochs.begin_again.Given as goal

abbrev pub invariant-loop-index : goal.invariant-loop-index
invariant-loop-index l = BeganAgain l.initial.runners.items l.runners.items l.index × (l.index-end ≡ vec_len l.runners)
