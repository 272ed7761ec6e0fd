-- `Scheduler::begin_again`: its clauses `attends` and `ok`.
use Rattle.pt_scheduler.proofs.Idle.{again}
use Rattle.pt_scheduler.proofs.scheduler.Scheduler.begin_again.Goals as goal

pub returns-clause-attends : goal.returns-clause-attends
returns-clause-attends c =
    let b = c.begin_over.ensures in
    again c.args.self.now c.begin_over.new.self c.begin_over.result b.crew b.read b.roles b.rest
