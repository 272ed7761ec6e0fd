-- `start_child`: its clauses `holds` and `remembers`.
use Rattle.std.proofs.Common.{sym, subst}
use Rattle.pt_supervisor.specs.Changed.{RemembersWhere}
use Rattle.pt_children.specs.Hearing.{Standing}
use Rattle.pt_supervisor.specs.Hearing.{standing}
use Rattle.pt_supervisor.specs.Keeping.{HoldsWhere}
use Rattle.pt_scheduler.proofs.plan.start_child.Goals as goal

pub returns-clause-holds : goal.returns-clause-holds
returns-clause-holds c =
    subst (HoldsWhere (standing c.args.boss.now)) (sym c.replace_start.ensures.standing)
    (subst (λ (s : Standing). HoldsWhere s (standing c.take_in-result.new.boss)) c.replace_start-plan.ensures.standing c.take_in-result.ensures.holds)

pub returns-clause-remembers : goal.returns-clause-remembers
returns-clause-remembers c =
    subst (RemembersWhere (standing c.args.boss.now)) (sym c.replace_start.ensures.standing)
    (subst (λ (s : Standing). RemembersWhere s (standing c.take_in-result.new.boss)) c.replace_start-plan.ensures.standing c.take_in-result.ensures.remembers)
