-- `Scheduler::restart_child`: its clauses `asks`, `attends` and `upholds`.
use Rattle.pt_supervisor.specs.Hearing.{standing}
use Rattle.pt_scheduler.specs.Asking.{BossRestarts}
use Rattle.pt_scheduler.proofs.Asking.{asked_attends, asked_upholds, asks}
use Rattle.pt_children.proofs.Refusing.{restarts_err}
use Rattle.pt_scheduler.proofs.scheduler.Scheduler.restart_child.Goals as goal

pub returns-clause-asks : goal.returns-clause-asks
returns-clause-asks c =
    asks c.args.p c.in_ok-boss.boss c.restart_child-result.new.self c.in_ok-boss.member c.args.self.now c.take_boss.new.self c.put_boss.new.self c.in_ok-boss.ensures c.is_ok.result c.put_boss.ensures
    (λ r old new. BossRestarts c.args.id old r new) c.restart_child-result.result c.is_ok.ensures.value c.restart_child-result.ensures.restarts

pub returns-clause-attends : goal.returns-clause-attends
returns-clause-attends c = asked_attends c.args.p c.in_ok-boss.boss c.restart_child-result.new.self c.in_ok-boss.member c.args.self.now c.take_boss.new.self c.put_boss.new.self c.in_ok-boss.ensures c.is_ok.result c.put_boss.ensures

pub returns-clause-upholds : goal.returns-clause-upholds
returns-clause-upholds c =
    asked_upholds c.args.p c.in_ok-boss.boss c.restart_child-result.new.self c.in_ok-boss.member c.args.self.now c.take_boss.new.self c.put_boss.new.self c.in_ok-boss.ensures c.is_ok.result c.put_boss.ensures
    c.restart_child-result.result c.is_ok.ensures.value c.restart_child-result.ensures.holds c.restart_child-result.ensures.remembers
    (restarts_err c.args.id (standing c.in_ok-boss.boss) c.restart_child-result.result (standing c.restart_child-result.new.self) c.restart_child-result.ensures.restarts.0)
