-- `Scheduler::begin_step`: its clauses `attends` and `upholds`.
use Rattle.std.proofs.Common.{Some, refl}
use Rattle.pt_scheduler.proofs.Noting.{attends_begun}
use Rattle.pt_scheduler.proofs.Upheld.{upholds_same}
use Rattle.pt_scheduler.proofs.scheduler.Scheduler.begin_step.Goals as goal

pub returns-clause-attends : goal.returns-clause-attends
returns-clause-attends c = λ d later a.
    let b = c.begin_step.ensures in
    attends_begun c.args.self.now (record c.args.self.now { crew = c.begin_step.new.self; desk = Some c.number.result }) d c.args.desk.now.shard a later b.begins refl b.knows b.room b.timers

pub returns-clause-upholds : goal.returns-clause-upholds
returns-clause-upholds c = λ past d u.
    let b = c.begin_step.ensures.begins in
    upholds_same past c.args.self.now (record c.args.self.now { crew = c.begin_step.new.self; desk = Some c.number.result }) d b.roles b.waiting u
