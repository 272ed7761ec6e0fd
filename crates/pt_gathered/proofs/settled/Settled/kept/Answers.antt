-- `Settled::kept`: its contract.
use Rattle.pt_gathered.specs.Gathered.{begins, journals}
use Rattle.pt_gathered.proofs.settled.Settled.kept.Goals as goal

pub returns : goal.returns
returns c = rw (← c.self.view_is) (c.kept.ensures (begins c.self.inside.node) (journals c.self.inside.node) c.self.invariant.0.lives_are)
