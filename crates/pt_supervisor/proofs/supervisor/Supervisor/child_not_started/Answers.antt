-- `Supervisor::child_not_started`: its clauses `holds` and `remembers`.
use Rattle.std.proofs.Common.{ap}
use Rattle.pt_children.specs.declared.children.Child.{Child}
use Rattle.pt_supervisor.specs.Hearing.{standing}
use Rattle.pt_supervisor.proofs.Changing.{set_holds, set_remembers}
use Rattle.pt_supervisor.proofs.supervisor.Supervisor.child_not_started.Goals as goal

pub returns-clause-holds : goal.returns-clause-holds
returns-clause-holds g c =
    set_holds c.in-Some.place c.child_of-child.result c.unmet.result (standing c.args.self.now) (standing c.set_child.new.self) c.child_of-child.ensures
    (ap (λ (x : Child). x.pid) c.unmet.ensures) c.set_child.ensures.standing

pub returns-clause-remembers : goal.returns-clause-remembers
returns-clause-remembers g c =
    set_remembers c.in-Some.place c.child_of-child.result c.unmet.result (standing c.args.self.now) (standing c.set_child.new.self) c.child_of-child.ensures
    (ap (λ (x : Child). x.pid) c.unmet.ensures) c.set_child.ensures.standing
