-- `Queues::pop_first`: its contract.
use Rattle.std.proofs.Common.{◌≡◌, Some, [], nat_eq, drop, length, unwrap_or, ap, sym, ◌∙◌, subst}
use Rattle.pt_judge.specs.Filing.{Queued, IsQueued, queue_of}
use Rattle.pt_judge.proofs.Queued.{updated, own_queue, is_there}
use Rattle.pt_judge.proofs.judging.queues.Queues.pop_first.Goals as goal

pub returns : goal.returns
returns c =
    let a = c.args.from in
    let b = c.args.to in
    let old = c.self.inside.pairs.entries in
    let left = c.pop.new.self in
    let new = (c.get_mut.follows.lender left).entries in
    let writes = (c.get_mut.follows.holds left).3 (is_there _ c.in-Some.queue.now c.in-Some.ensures.value) in
    let wrote : IsQueued a b left old new = updated a b old new (Some left) writes.0 in
    let had : c.in-Some.queue.now ≡ queue_of old a b = ap (λ o. unwrap_or o []) c.in-Some.ensures.value in
    record {
      queued =
          subst (λ (z : Queued). IsQueued a b (drop 1 (queue_of z a b)) z new) c.self.view_is
          (subst (λ z. IsQueued a b z old new) (c.pop.ensures ∙ ap (drop 1) had) wrote);
      none = c.is_empty.ensures ∙ ap (λ z. nat_eq (length z) 0) (sym (own_queue a b left old new wrote));
    }
