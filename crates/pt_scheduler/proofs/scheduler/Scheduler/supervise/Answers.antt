-- `Scheduler::supervise`: its clauses `becomes`, `attends` and `upholds`.
use Rattle.pt_scheduler.proofs.Becoming.{attends_became, becomes, was_answered}
use Rattle.pt_scheduler.proofs.Upheld.{boss_upholds}
use Rattle.pt_scheduler.proofs.scheduler.Scheduler.supervise.Goals as goal

pub returns-clause-becomes : goal.returns-clause-becomes
returns-clause-becomes c =
    becomes c.args.p c.args.spec c.args.children.now c.in_ok-boss.boss (record { stands = c.in_ok-boss.ensures.standing; posts = c.in_ok-boss.ensures.posts }) c.args.self.now c.answer.new.self c.set_boss.new.self
    (was_answered c.args.p c.args.self.now c.answer.new.self _ c.if-not-branch.false c.in_ok-answer.ensures.answered) c.set_boss.ensures.sets c.set_boss.ensures.rest

pub returns-clause-attends : goal.returns-clause-attends
returns-clause-attends c = λ d a.
    attends_became c.args.p c.args.spec c.args.children.now c.in_ok-boss.boss (record { stands = c.in_ok-boss.ensures.standing; posts = c.in_ok-boss.ensures.posts }) c.args.self.now c.answer.new.self c.set_boss.new.self
    (was_answered c.args.p c.args.self.now c.answer.new.self _ c.if-not-branch.false c.in_ok-answer.ensures.answered) c.set_boss.ensures.sets c.set_boss.ensures.rest d (c.answer.ensures.attends d a)

pub returns-clause-upholds : goal.returns-clause-upholds
returns-clause-upholds c = λ past d u. boss_upholds past c.args.self.now c.set_boss.new.self d c.args.p c.args.spec c.args.children.now (returns-clause-becomes c) u
