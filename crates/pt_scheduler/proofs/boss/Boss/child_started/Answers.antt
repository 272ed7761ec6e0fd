-- `Boss::child_started`: its clauses `holds` and `remembers`.
use Rattle.std.proofs.Common.{◌≡◌, subst}
use Rattle.pt_supervisor.specs.declared.supervisor.Supervisor.{Supervisor}
use Rattle.pt_supervisor.specs.Changed.{RemembersWhere}
use Rattle.pt_supervisor.specs.Hearing.{standing}
use Rattle.pt_supervisor.specs.Keeping.{HoldsWhere}
use Rattle.pt_scheduler.specs.declared.plan.Plan.{Plan}
use Rattle.pt_scheduler.proofs.boss.Boss.child_started.Goals as goal

pub returns-clause-holds : goal.returns-clause-holds
returns-clause-holds c =
    let is : c.deref_mut.result.now ≡ c.args.self.now = cc (c.deref_mut.ensures.value, c.self.view_is) in
    subst (λ (b : Supervisor Plan). HoldsWhere (standing b) (standing c.child_started.new.self)) is c.child_started.ensures.holds

pub returns-clause-remembers : goal.returns-clause-remembers
returns-clause-remembers c =
    let is : c.deref_mut.result.now ≡ c.args.self.now = cc (c.deref_mut.ensures.value, c.self.view_is) in
    subst (λ (b : Supervisor Plan). RemembersWhere (standing b) (standing c.child_started.new.self)) is c.child_started.ensures.remembers
