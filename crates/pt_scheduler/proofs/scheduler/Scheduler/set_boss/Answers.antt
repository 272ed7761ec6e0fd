-- `Scheduler::set_boss`: its contract.
use Rattle.pt_scheduler.proofs.Noting.{else_then, boss_none, boss_set}
use Rattle.pt_scheduler.proofs.scheduler.Scheduler.set_boss.Goals as goal

pub returns-in-Some-clause-sets : goal.returns-in-Some-clause-sets
returns-in-Some-clause-sets c = boss_set c.args.self.now c.take_out.new.self c.put_back.new.self c.args.p c.in-Some.was c.with_boss.result c.args.boss c.in-Some.ensures.takes c.with_boss.ensures c.put_back.ensures.sets

pub returns-in-Some-clause-rest : goal.returns-in-Some-clause-rest
returns-in-Some-clause-rest c = else_then c.args.self.now c.take_out.new.self c.put_back.new.self c.take_out.ensures.rest c.put_back.ensures.rest

pub returns-in_default-clause-sets : goal.returns-in_default-clause-sets
returns-in_default-clause-sets c = boss_none c.args.self.now c.take_out.new.self c.args.p c.args.boss c.in_default.ensures.takes
