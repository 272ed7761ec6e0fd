-- `Scheduler::take_out`: its clause `takes`.
use Rattle.pt_scheduler.proofs.Noting.{member_taken, none_out}
use Rattle.pt_scheduler.proofs.scheduler.Scheduler.take_out.Goals as goal

pub returns-in-Ok-clause-takes : goal.returns-in-Ok-clause-takes
returns-in-Ok-clause-takes c = member_taken c.args.self.now (record c.args.self.now { crew = c.replace.new.self }) c.args.p c.new.result c.in-Ok.was c.new.ensures c.in-Ok.ensures.replaced

pub returns-clause-takes : goal.returns-clause-takes
returns-clause-takes c = none_out c.args.self.now (record c.args.self.now { crew = c.replace.new.self }) c.args.p c.in-Err.ensures.back.1 c.in-Err.ensures.back.2
