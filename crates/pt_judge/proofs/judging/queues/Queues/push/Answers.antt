-- `Queues::push`: its contract.
use Rattle.std.proofs.Common.{◌≡◌, Some, ◌∷◌, [], ◌++◌, unwrap_or, ap, ◌∙◌, subst}
use Rattle.pt_judge.specs.Filing.{Queued, IsQueued, queue_of}
use Rattle.pt_judge.proofs.Queued.{updated, on_ok, is_there}
use Rattle.pt_judge.proofs.judging.queues.Queues.push.Goals as goal

pub returns-in-Some : goal.returns-in-Some
returns-in-Some c =
    let a = c.args.from in
    let b = c.args.to in
    let old = c.self.inside.pairs.entries in
    let pushed = c.push.new.self in
    let new = (c.get_mut.follows.lender pushed).entries in
    let writes = (c.get_mut.follows.holds pushed).3 (is_there _ c.in-Some.queue.now c.in-Some.ensures.value) in
    let wrote : IsQueued a b pushed old new = updated a b old new (Some pushed) writes.0 in
    let had : c.in-Some.queue.now ≡ queue_of old a b = ap (λ o. unwrap_or o []) c.in-Some.ensures.value in
    on_ok c.push.result
    (λ e.
    subst (λ (z : Queued). IsQueued a b (queue_of z a b ++ c.args.number ∷ []) z new) c.self.view_is
    (subst (λ z. IsQueued a b z old new) (e ∙ ap (λ z. z ++ c.args.number ∷ []) had) wrote))
    c.push.ensures
