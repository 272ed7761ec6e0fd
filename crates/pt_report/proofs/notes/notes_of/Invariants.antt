-- `notes_of`: what holds in its loop over `pid`.
use Rattle.std.proofs.Common.{◌≡◌, map, take}
use Rattle.pt_report.specs.declared.notes.Note.{Note}
use Rattle.pt_report.proofs.notes.notes_of.Given as goal

abbrev pub invariant-loop-pid : goal.invariant-loop-pid
invariant-loop-pid l = map (λ (n : Note). n.pid) l.notes.items ≡ take l.pid-index l.pids
