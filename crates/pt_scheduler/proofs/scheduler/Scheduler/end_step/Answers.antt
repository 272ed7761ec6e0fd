-- `Scheduler::end_step`: its clauses `attends` and `upholds`.
use Rattle.std.proofs.Common.{refl}
use Rattle.pt_scheduler.proofs.Noting.{attends_ended}
use Rattle.pt_scheduler.proofs.Upheld.{ended_upholds}
use Rattle.pt_scheduler.proofs.scheduler.Scheduler.end_step.Goals as goal

pub returns-clause-attends : goal.returns-clause-attends
returns-clause-attends c = λ a.
    let e = c.end_step.ensures in
    attends_ended c.args.self.now (record c.args.self.now { crew = c.end_step.new.self }) c.args.desk.now.shard c.journal-lawful.ensures.local a e.ends refl (record { knows = e.knows a.crew.knows; room = e.room a.crew.room; timers = e.timers a.crew.timers })

pub returns-clause-upholds : goal.returns-clause-upholds
returns-clause-upholds c = λ past u.
    ended_upholds past c.args.self.now (record c.args.self.now { crew = c.end_step.new.self }) c.args.desk.now.shard c.end_step.ensures.ends u
