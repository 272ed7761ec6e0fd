-- `Scheduler::put_back`: its clause `sets`.
use Rattle.pt_scheduler.proofs.Noting.{member_set}
use Rattle.pt_scheduler.proofs.scheduler.Scheduler.put_back.Goals as goal

pub returns-clause-sets : goal.returns-clause-sets
returns-clause-sets c = member_set c.args.self.now (record c.args.self.now { crew = c.replace.new.self }) c.args.p c.args.member c.replace.result c.replace.ensures.replaced c.replace.ensures.back
