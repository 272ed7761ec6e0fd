-- `Audit::read`: what holds in its loop over `place`.
use Rattle.std.proofs.Common.{ℕ, List, ◌++◌, take}
use Rattle.pt_auditor.specs.Hearings.{Heard}
use Rattle.pt_auditor.specs.Reading.{IsRead}
use Rattle.pt_auditor.proofs.audit.Audit.read.Given as goal

abbrev pub invariant-loop-place : goal.invariant-loop-place
invariant-loop-place l =
    (text : List ℕ) (heard : Heard) → IsRead text heard l.fn.self.hearing l.fn.self.line.items l.fn.self.lines
    → (now : Heard) × IsRead (text ++ take l.place l.bytes) now l.hearing l.line.items l.lines
