-- `Scheduler::set_notes`: its contract.
use Rattle.pt_scheduler.proofs.Noting.{else_then, notes_none, notes_set}
use Rattle.pt_scheduler.proofs.scheduler.Scheduler.set_notes.Goals as goal

pub returns-in-Some-clause-sets : goal.returns-in-Some-clause-sets
returns-in-Some-clause-sets c = notes_set c.args.self.now c.take_out.new.self c.put_back.new.self c.args.p c.in-Some.was c.with_notes.result c.args.notes c.in-Some.ensures.takes c.with_notes.ensures c.put_back.ensures.sets

pub returns-in-Some-clause-rest : goal.returns-in-Some-clause-rest
returns-in-Some-clause-rest c = else_then c.args.self.now c.take_out.new.self c.put_back.new.self c.take_out.ensures.rest c.put_back.ensures.rest

pub returns-in_default-clause-sets : goal.returns-in_default-clause-sets
returns-in_default-clause-sets c = notes_none c.args.self.now c.take_out.new.self c.args.p c.args.notes c.in_default.ensures.takes
