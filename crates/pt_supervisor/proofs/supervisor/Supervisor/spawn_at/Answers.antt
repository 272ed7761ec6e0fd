-- `Supervisor::spawn_at`: its clause `at`.
use Rattle.std.proofs.Common.{slice_set, sym, subst}
use Rattle.pt_children.specs.declared.children.Child.{Child}
use Rattle.pt_supervisor.specs.Hearing.{standing}
use Rattle.pt_supervisor.specs.Supervising.{SetsAt}
use Rattle.pt_supervisor.proofs.Starting.{started_sets, unstarted_sets}
use Rattle.pt_supervisor.proofs.supervisor.Supervisor.spawn_at.Goals as goal

pub returns-in-Err-clause-at : goal.returns-in-Err-clause-at
returns-in-Err-clause-at g c =
    let xs = (standing c.args.self.now).children in
    subst (SetsAt c.args.place xs) (sym c.set.ensures)
    (subst (λ (v : Child). SetsAt c.args.place xs (slice_set xs c.args.place v)) (sym c.unstarted.ensures) (unstarted_sets xs c.args.place c.args.child _ _ c.requires.at c.requires.due))

pub returns-in-Ok-spawn_linked-clause-at : goal.returns-in-Ok-spawn_linked-clause-at
returns-in-Ok-spawn_linked-clause-at g c =
    let xs = (standing c.args.self.now).children in
    subst (SetsAt c.args.place xs) (sym c.set-in-Ok-spawn_linked.ensures)
    (subst (λ (v : Child). SetsAt c.args.place xs (slice_set xs c.args.place v)) (sym c.started.ensures) (started_sets xs c.args.place c.args.child _ c.requires.at c.requires.due))

pub returns-in-Err-spawn_linked-clause-at : goal.returns-in-Err-spawn_linked-clause-at
returns-in-Err-spawn_linked-clause-at g c =
    let xs = (standing c.args.self.now).children in
    subst (SetsAt c.args.place xs) (sym c.set-in-Err-spawn_linked.ensures)
    (subst (λ (v : Child). SetsAt c.args.place xs (slice_set xs c.args.place v)) (sym c.unstarted-in-Err-spawn_linked.ensures) (unstarted_sets xs c.args.place c.args.child _ _ c.requires.at c.requires.due))
