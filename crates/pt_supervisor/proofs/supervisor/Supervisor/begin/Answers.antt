-- `Supervisor::begin`: its clause `permanent`.
use Rattle.std.proofs.Common.{sym, subst}
use Rattle.pt_children.specs.Children.{PermanentAreWanted}
use Rattle.pt_children.specs.Hearing.{Standing}
use Rattle.pt_supervisor.specs.Hearing.{standing}
use Rattle.pt_children.specs.Limits.{moment}
use Rattle.pt_children.proofs.Wanting.{again_keeps, found_keeps}
use Rattle.pt_supervisor.proofs.supervisor.Supervisor.begin.Goals as goal

pub returns-clause-permanent : goal.returns-clause-permanent
returns-clause-permanent g c = λ k.
    subst (λ (s : Standing). PermanentAreWanted s.children) (sym c.try_again.ensures.standing) (again_keeps _ (standing c.find.new.self)
    (subst (λ (s : Standing). PermanentAreWanted s.children) (sym c.find.ensures.standing) (found_keeps (moment (standing c.args.self.now).timed c.trap.new.desk.shard.clock c.args.now) (standing c.args.self.now) k)))
