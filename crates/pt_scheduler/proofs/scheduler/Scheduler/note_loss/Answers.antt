-- `Scheduler::note_loss`: its clause `upholds`.
use Rattle.pt_scheduler.proofs.Upheld.{lost_upholds}
use Rattle.pt_scheduler.proofs.scheduler.Scheduler.note_loss.Goals as goal

pub returns-in-Exited-clause-upholds : goal.returns-in-Exited-clause-upholds
returns-in-Exited-clause-upholds c = λ past d u. lost_upholds past c.args.self.now c.set_lost.new.self d _ _ c.set_lost.ensures.notes u
