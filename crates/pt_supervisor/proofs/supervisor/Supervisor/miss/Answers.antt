-- `Supervisor::miss`: its clause `permanent`.
use Rattle.std.proofs.Common.{None, slice_set, sym, subst, ap, ◌∙◌}
use Rattle.pt_children.specs.declared.children.Child.{Child}
use Rattle.pt_children.specs.Children.{PermanentAreWanted}
use Rattle.pt_children.specs.Hearing.{Standing}
use Rattle.pt_supervisor.specs.Hearing.{standing}
use Rattle.pt_supervisor.proofs.Joining.{refused_keeps}
use Rattle.pt_supervisor.proofs.supervisor.Supervisor.miss.Goals as goal

pub returns-clause-permanent : goal.returns-clause-permanent
returns-clause-permanent g c = λ k.
    let xs = (standing c.args.self.now).children in
    subst (λ (s : Standing). PermanentAreWanted s.children) (sym (c.set_asked.ensures.standing ∙ ap (λ (s : Standing). record s { asked = None }) c.set_child.ensures.standing))
    (subst (λ (v : Child). PermanentAreWanted (slice_set xs c.args.place v)) (sym c.refused.ensures)
    (refused_keeps xs c.args.place c.args.clock c.args.fault c.args.child c.requires.at k))
