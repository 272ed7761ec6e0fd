-- `Queues::open`: its contract.
use Rattle.std.proofs.Common.{Some, ◌∷◌, [], subst}
use Rattle.pt_judge.specs.Filing.{Queued, IsQueued}
use Rattle.pt_judge.proofs.Queued.{updated}
use Rattle.pt_judge.proofs.judging.queues.Queues.open.Goals as goal

pub returns : goal.returns
returns c =
    let a = c.args.from in
    let b = c.args.to in
    let new = c.insert.new.self.entries in
    subst (λ (z : Queued). IsQueued a b (c.args.number ∷ []) z new) c.self.view_is
    (subst (λ z. IsQueued a b z c.self.inside.pairs.entries new) c.in_ok-queue.ensures
    (updated a b c.self.inside.pairs.entries new (Some c.in_ok-queue.queue) c.in_ok-insert.ensures.updates.0))
