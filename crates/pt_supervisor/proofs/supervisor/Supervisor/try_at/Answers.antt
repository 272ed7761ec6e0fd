-- `Supervisor::try_at`: its clause `at`.
use Rattle.std.proofs.Common.{slice_set, sym, subst}
use Rattle.pt_children.specs.declared.children.Child.{Child}
use Rattle.pt_supervisor.specs.Hearing.{standing}
use Rattle.pt_supervisor.specs.Supervising.{SetsAt}
use Rattle.pt_supervisor.proofs.Starting.{asked_sets}
use Rattle.pt_supervisor.proofs.supervisor.Supervisor.try_at.Goals as goal

pub returns-then-not-is_here-clause-at : goal.returns-then-not-is_here-clause-at
returns-then-not-is_here-clause-at g c =
    let xs = (standing c.args.self.now).children in
    subst (SetsAt c.args.place xs) (sym c.set.ensures)
    (subst (λ (v : Child). SetsAt c.args.place xs (slice_set xs c.args.place v)) (sym c.asked_for.ensures) (asked_sets xs c.args.place c.args.child c.requires.at c.requires.due))
