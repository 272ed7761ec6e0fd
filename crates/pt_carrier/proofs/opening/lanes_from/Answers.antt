-- `lanes_from`: its loop over `e`.
use Rattle.std.proofs.Common.{◌≡◌, ◌<◌, [], ◌∷◌, ◌++◌, length, get_or, set, arith, below_more, ap, ◌∙◌}
use Rattle.std.proofs.lemmas.List.{get_or_append_left, get_or_push}
use Rattle.pt_carrier.specs.Lanes.{Sending, new_sending, new_receiving}
use Rattle.pt_carrier.specs.Node.{lists}
use Rattle.pt_signal.proofs.Lists.{get_or-map_set_same, get_or-map_set_other}
use Rattle.pt_carrier.proofs.Lists.{each_push, lists_read}
use Rattle.pt_carrier.proofs.opening.lanes_from.Goals as goal

pub loop-e-preserved : goal.loop-e-preserved
loop-e-preserved c =
    let inv = c.loop-e.invariant in
    let e = c.loop-e.e in
    let row = c.loop-e.row.items in
    let out = c.in_ok-out.out in
    let columns = c.loop-e.columns.items in
    let count : length row ≡ e = omega (arith, c.loop-e.row.ok.0, inv.row_desks) in
    let at : c.from-in-loop-e.result ≡ e = c.from-in-loop-e.ensures in
    let within : e < length columns = omega (arith, c.loop-e.columns.ok.0, inv.column_desks, c.loop-e-test.true) in
    record {
      row_desks = omega (arith, c.in_ok-push.ensures.len, inv.row_desks);
      column_desks = inv.column_desks;
      row = rw c.in_ok-push.ensures.items (λ k x l. each_push (λ k (s : Sending). s ≡ new_sending s.ring c.args.d k c.args.capacity) row out x e count (λ k h. inv.row k x h) c.in_ok-out.ensures.out k l);
      columns = rw (c.in_ok-push.ensures.items, at) (λ k x l.
          below_more (λ k. get_or (lists (set columns e c.push-in-loop-e.new.self)) k [] ≡ get_or (lists c.args.columns.now.items) k [] ++ new_receiving (get_or (row ++ out ∷ []) k x).ring c.args.d k ∷ []) e
          (λ k h. get_or-map_set_other (λ v. v.items) columns e k c.push-in-loop-e.new.self [] (λ q. omega arith) ∙ rw (get_or_append_left row (out ∷ []) x k (omega arith)) (inv.columns k x h))
          (get_or-map_set_same (λ v. v.items) columns e c.push-in-loop-e.new.self [] within ∙ rw (get_or_push row out x e count, ← c.in_ok-out.ensures.into, ← inv.rest e (omega arith), ← lists_read columns e c.index_mut.result.now within (c.index_mut.ensures.value ∙ ap (λ i. get_or columns i c.index_mut.result.now) at)) c.in_ok-push-2.ensures.items)
          k l);
      rest = rw at (λ k l. get_or-map_set_other (λ v. v.items) columns e k c.push-in-loop-e.new.self [] (λ q. omega arith) ∙ inv.rest k (omega arith));
    }
