-- `Scheduler::delete_child`: its clauses `asks`, `attends` and `upholds`.
use Rattle.pt_supervisor.specs.Hearing.{standing}
use Rattle.pt_scheduler.specs.Asking.{BossDeletes}
use Rattle.pt_scheduler.proofs.Asking.{asked_attends, asked_upholds, asks}
use Rattle.pt_children.proofs.Refusing.{deletes_err}
use Rattle.pt_scheduler.proofs.scheduler.Scheduler.delete_child.Goals as goal

pub returns-clause-asks : goal.returns-clause-asks
returns-clause-asks c =
    asks c.args.p c.in_ok-boss.boss c.delete_child-result.new.self c.in_ok-boss.member c.args.self.now c.take_boss.new.self c.put_boss.new.self c.in_ok-boss.ensures c.is_ok.result c.put_boss.ensures
    (λ r old new. BossDeletes c.args.id old r new) c.delete_child-result.result c.is_ok.ensures.value c.delete_child-result.ensures.deletes

pub returns-clause-attends : goal.returns-clause-attends
returns-clause-attends c = asked_attends c.args.p c.in_ok-boss.boss c.delete_child-result.new.self c.in_ok-boss.member c.args.self.now c.take_boss.new.self c.put_boss.new.self c.in_ok-boss.ensures c.is_ok.result c.put_boss.ensures

pub returns-clause-upholds : goal.returns-clause-upholds
returns-clause-upholds c =
    asked_upholds c.args.p c.in_ok-boss.boss c.delete_child-result.new.self c.in_ok-boss.member c.args.self.now c.take_boss.new.self c.put_boss.new.self c.in_ok-boss.ensures c.is_ok.result c.put_boss.ensures
    c.delete_child-result.result c.is_ok.ensures.value c.delete_child-result.ensures.holds c.delete_child-result.ensures.remembers
    (deletes_err c.args.id (standing c.in_ok-boss.boss) c.delete_child-result.result (standing c.delete_child-result.new.self) c.delete_child-result.ensures.deletes.0)
