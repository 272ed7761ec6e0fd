-- `Scheduler::answer`: its clauses `attends`, `ok` and `upholds`.
use Rattle.std.proofs.Common.{refl}
use Rattle.pt_scheduler.proofs.Noting.{attends_answered}
use Rattle.pt_scheduler.proofs.Upheld.{answered_upholds}
use Rattle.pt_scheduler.proofs.scheduler.Scheduler.answer.Goals as goal

pub returns-clause-attends : goal.returns-clause-attends
returns-clause-attends c = λ d a.
    let r = c.answer.ensures in
    attends_answered c.args.self.now (record c.args.self.now { crew = c.answer.new.self }) d c.args.p c.args.next c.answer.result r.answered r.refused refl a (r.attends d a.crew).1

pub returns-clause-ok : goal.returns-clause-ok
returns-clause-ok c = λ d a. (c.answer.ensures.attends d a.crew).0

pub returns-clause-upholds : goal.returns-clause-upholds
returns-clause-upholds c = λ past d u.
    let r = c.answer.ensures in
    answered_upholds past c.args.self.now (record c.args.self.now { crew = c.answer.new.self }) d c.args.p c.args.next c.answer.result r.answered r.refused u
