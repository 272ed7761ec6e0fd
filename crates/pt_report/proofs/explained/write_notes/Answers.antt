-- `write_notes`: its contract.
use Rattle.std.proofs.Common.{arith}
use Rattle.pt_gathered.specs.Gathered.{begins, journals}
use Rattle.pt_report.proofs.Accounts.{all_notes}
use Rattle.pt_report.proofs.explained.write_notes.Goals as goal

pub returns : goal.returns
returns g c =
    all_notes (begins c.args.quiet.now.gathered) (journals c.args.quiet.now.gathered) c.args.notes.now c.loop-note.note-index _ _ (omega (arith, c.loop-note-test.false)) c.loop-note.invariant
