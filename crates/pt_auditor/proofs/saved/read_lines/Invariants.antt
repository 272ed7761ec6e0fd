-- `read_lines`: what holds in its loop, and that it ends.
use Rattle.std.proofs.Common.{length}
use Rattle.pt_auditor.proofs.Reread.{IsReading}
use Rattle.pt_auditor.proofs.saved.read_lines.Given as goal

abbrev pub invariant-lines : goal.invariant-lines
invariant-lines l = IsReading l.text l.left l.state l.line

abbrev pub decreases-lines : goal.decreases-lines
decreases-lines l = length l.left
