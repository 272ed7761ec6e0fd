-- `Scheduler::set_time`: its clauses `attends` and `upholds`.
use Rattle.std.proofs.Common.{refl}
use Rattle.pt_desk.proofs.Turning.{extends}
use Rattle.pt_crew.specs.Crews.{waiting}
use Rattle.pt_scheduler.proofs.Noting.{attends_then, fresh_is, same_comes}
use Rattle.pt_scheduler.proofs.Upheld.{upholds_same}
use Rattle.pt_scheduler.proofs.scheduler.Scheduler.set_time.Goals as goal

pub returns-clause-attends : goal.returns-clause-attends
returns-clause-attends c = λ d a.
    let s = c.set_time.ensures in
    let new = record c.args.self.now { crew = c.set_time.new.self } in
    attends_then c.args.self.now new d d a (extends d) (s.attends d a.crew) (fresh_is (waiting c.args.self.now.crew) (waiting c.set_time.new.self) s.rest.2 a.fresh) refl (same_comes c.args.self.now new d a s.roles)

pub returns-clause-upholds : goal.returns-clause-upholds
returns-clause-upholds c = λ past d u.
    upholds_same past c.args.self.now (record c.args.self.now { crew = c.set_time.new.self }) d c.set_time.ensures.roles c.set_time.ensures.rest.2 u
