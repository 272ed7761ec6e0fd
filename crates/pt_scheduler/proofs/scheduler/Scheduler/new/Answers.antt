-- `Scheduler::new`: its clauses `attends` and `upholds`.
use Rattle.std.proofs.Common.{None, refl}
use Rattle.pt_supervisor.specs.Keeping.{Keeps}
use Rattle.pt_crew.proofs.Resting.{nobody_upholds}
use Rattle.pt_scheduler.specs.Members.{boss_part}
use Rattle.pt_scheduler.proofs.Noting.{attends_new}
use Rattle.pt_scheduler.proofs.scheduler.Scheduler.new.Goals as goal

pub returns-clause-attends : goal.returns-clause-attends
returns-clause-attends c = λ d. attends_new (record { crew = c.new.result; read = 0; desk = None }) d (c.new.ensures.attends d) c.new.ensures.nobody c.new.ensures.born refl

pub returns-clause-upholds : goal.returns-clause-upholds
returns-clause-upholds c = λ past d. nobody_upholds (Keeps past boss_part) c.new.result d c.new.ensures.nobody c.new.ensures.born
