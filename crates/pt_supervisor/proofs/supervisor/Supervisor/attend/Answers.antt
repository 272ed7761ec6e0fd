-- `Supervisor::attend`: its clause `permanent`.
use Rattle.std.proofs.Common.{sym, subst}
use Rattle.pt_children.specs.Children.{PermanentAreWanted}
use Rattle.pt_children.specs.Hearing.{Standing, monitor_closed}
use Rattle.pt_supervisor.specs.Hearing.{standing}
use Rattle.pt_children.specs.Limits.{moment}
use Rattle.pt_children.proofs.Wanting.{heard_keeps}
use Rattle.pt_supervisor.proofs.supervisor.Supervisor.attend.Goals as goal

pub returns-in-Some-Exit-clause-permanent : goal.returns-in-Some-Exit-clause-permanent
returns-in-Some-Exit-clause-permanent g c = λ k.
    subst (λ (s : Standing). PermanentAreWanted s.children) (sym c.hear.ensures.standing)
    (heard_keeps (moment (standing c.args.self.now).timed c.args.desk.now.shard.clock c.args.now) c.in-Some-Exit.from c.in-Some-Exit.reason (standing c.args.self.now) k)

pub returns-in-Some-Down-clause-permanent : goal.returns-in-Some-Down-clause-permanent
returns-in-Some-Down-clause-permanent g c = λ k.
    subst (λ (s : Standing). PermanentAreWanted s.children) (sym c.hear_down.ensures.standing)
    (heard_keeps (moment (standing c.args.self.now).timed c.args.desk.now.shard.clock c.args.now) c.in-Some-Down.from c.in-Some-Down.reason (monitor_closed c.in-Some-Down.monitor (standing c.args.self.now)) k)
