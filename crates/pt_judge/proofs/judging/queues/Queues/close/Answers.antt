-- `Queues::close`: its contract.
use Rattle.std.proofs.Common.{None, [], subst}
use Rattle.pt_judge.specs.Filing.{Queued, IsQueued}
use Rattle.pt_judge.proofs.Queued.{updated}
use Rattle.pt_judge.proofs.judging.queues.Queues.close.Goals as goal

pub returns : goal.returns
returns c =
    let new = c.swap_remove.new.self.entries in
    subst (λ (z : Queued). IsQueued c.args.from c.args.to [] z new) c.self.view_is
    (updated c.args.from c.args.to c.self.inside.pairs.entries new None c.swap_remove.ensures.updates.0)
