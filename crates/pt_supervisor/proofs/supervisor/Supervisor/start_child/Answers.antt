-- `Supervisor::start_child`: its clauses `holds` and `remembers`.
use Rattle.std.proofs.Common.{List, ap}
use Rattle.pt_children.specs.declared.children.Child.{Child}
use Rattle.pt_supervisor.specs.Hearing.{standing}
use Rattle.pt_supervisor.proofs.Changing.{more_holds, more_remembers}
use Rattle.pt_supervisor.proofs.supervisor.Supervisor.start_child.Goals as goal

pub returns-in-Ok-clause-holds : goal.returns-in-Ok-clause-holds
returns-in-Ok-clause-holds g c =
    more_holds c.args.child (standing c.args.self.now) _ (ap (λ (xs : List Child). record (standing c.args.self.now) { children = xs }) c.in-Ok.ensures.added)

pub returns-in-Ok-clause-remembers : goal.returns-in-Ok-clause-remembers
returns-in-Ok-clause-remembers g c =
    more_remembers c.args.child (standing c.args.self.now) _ (ap (λ (xs : List Child). record (standing c.args.self.now) { children = xs }) c.in-Ok.ensures.added)
