-- `Scheduler::child_not_started`: its clauses `asks`, `attends` and `upholds`.
use Rattle.pt_children.specs.Homes.{unmet_child, place_awaited}
use Rattle.pt_supervisor.specs.Hearing.{standing}
use Rattle.pt_scheduler.specs.Asking.{BossAnswersNotStarted}
use Rattle.pt_scheduler.proofs.Asking.{asked_attends, asked_upholds, asks}
use Rattle.pt_children.proofs.Refusing.{answers_err}
use Rattle.pt_scheduler.proofs.scheduler.Scheduler.child_not_started.Goals as goal

pub returns-clause-asks : goal.returns-clause-asks
returns-clause-asks c =
    asks c.args.p c.in_ok-boss.boss c.child_not_started-result.new.self c.in_ok-boss.member c.args.self.now c.take_boss.new.self c.put_boss.new.self c.in_ok-boss.ensures c.is_ok.result c.put_boss.ensures
    (λ r old new. BossAnswersNotStarted c.args.id c.args.fault old r new) c.child_not_started-result.result c.is_ok.ensures.value c.child_not_started-result.ensures.answers

pub returns-clause-attends : goal.returns-clause-attends
returns-clause-attends c = asked_attends c.args.p c.in_ok-boss.boss c.child_not_started-result.new.self c.in_ok-boss.member c.args.self.now c.take_boss.new.self c.put_boss.new.self c.in_ok-boss.ensures c.is_ok.result c.put_boss.ensures

pub returns-clause-upholds : goal.returns-clause-upholds
returns-clause-upholds c =
    asked_upholds c.args.p c.in_ok-boss.boss c.child_not_started-result.new.self c.in_ok-boss.member c.args.self.now c.take_boss.new.self c.put_boss.new.self c.in_ok-boss.ensures c.is_ok.result c.put_boss.ensures
    c.child_not_started-result.result c.is_ok.ensures.value c.child_not_started-result.ensures.holds c.child_not_started-result.ensures.remembers
    (answers_err (place_awaited c.args.id (standing c.in_ok-boss.boss).children) (unmet_child c.args.fault) (standing c.in_ok-boss.boss) c.child_not_started-result.result (standing c.child_not_started-result.new.self) c.child_not_started-result.ensures.answers.0)
