-- `Scheduler::child_to_start`: its clauses `asks`, `attends` and `upholds`.
use Rattle.pt_supervisor.specs.Hearing.{standing}
use Rattle.pt_scheduler.specs.Asking.{BossAsksProgram}
use Rattle.pt_scheduler.proofs.Asking.{asked_attends, asked_upholds, asks}
use Rattle.pt_children.proofs.Refusing.{asks_err}
use Rattle.pt_scheduler.proofs.scheduler.Scheduler.child_to_start.Goals as goal

pub returns-clause-asks : goal.returns-clause-asks
returns-clause-asks c =
    asks c.args.p c.in_ok-boss.boss c.to_start-result.new.self c.in_ok-boss.member c.args.self.now c.take_boss.new.self c.put_boss.new.self c.in_ok-boss.ensures c.is_ok.result c.put_boss.ensures
    (λ r old new. BossAsksProgram old r new) c.to_start-result.result c.is_ok.ensures.value c.to_start-result.ensures.asks

pub returns-clause-attends : goal.returns-clause-attends
returns-clause-attends c = asked_attends c.args.p c.in_ok-boss.boss c.to_start-result.new.self c.in_ok-boss.member c.args.self.now c.take_boss.new.self c.put_boss.new.self c.in_ok-boss.ensures c.is_ok.result c.put_boss.ensures

pub returns-clause-upholds : goal.returns-clause-upholds
returns-clause-upholds c =
    asked_upholds c.args.p c.in_ok-boss.boss c.to_start-result.new.self c.in_ok-boss.member c.args.self.now c.take_boss.new.self c.put_boss.new.self c.in_ok-boss.ensures c.is_ok.result c.put_boss.ensures
    c.to_start-result.result c.is_ok.ensures.value c.to_start-result.ensures.holds c.to_start-result.ensures.remembers
    (asks_err (standing c.in_ok-boss.boss) c.to_start-result.result (standing c.to_start-result.new.self) c.to_start-result.ensures.asks.0)
