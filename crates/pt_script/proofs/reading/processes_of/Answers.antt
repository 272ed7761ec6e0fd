-- `processes_of`: its contract, and its loop over `pending`.
use Rattle.std.proofs.Common.{◌≡◌, ◌<◌, length, map, ap, sym, ◌∙◌, arith, get_or}
use Rattle.std.proofs.lemmas.List.{get_or-map, length-map}
use Rattle.std.proofs.lemmas.Result.{err_from_is_err_and}
use Rattle.pt_script.specs.Scripts.{pending_view}
use Rattle.pt_script.proofs.EachFacts.{each_next, each_refuses}
use Rattle.pt_script.proofs.reading.processes_of.Goals as goal

pub returns-in_err-read_pending : goal.returns-in_err-read_pending
returns-in_err-read_pending c =
    let p = err_from_is_err_and c.from_residual.result c.from_residual.ensures.1 in
    let v = c.pending-item.result in
    let xs = c.args.heads.now.unread.items in
    let i = c.loop-pending.pending-index in
    let lt : i < length xs = omega (arith, c.loop-pending-test.true, ap length c.deref-pending-items.ensures.value) in
    let here : v ≡ get_or xs i v = rw c.deref-pending-items.ensures.value at c.pending-item.is in
    rw (p.1, p.2) (each_refuses _ _ (map pending_view xs) i (pending_view v) _ _ (rw (length-map xs pending_view) lt) (get_or-map pending_view xs i v (pending_view v) lt ∙ ap pending_view (sym here)) c.in_err-read_pending.ensures c.loop-pending.invariant)

pub loop-pending-preserved : goal.loop-pending-preserved
loop-pending-preserved c =
    let v = c.pending-item.result in
    let xs = c.args.heads.now.unread.items in
    let i = c.loop-pending.pending-index in
    let lt : i < length xs = omega (arith, c.loop-pending-test.true, ap length c.deref-pending-items.ensures.value) in
    let here : v ≡ get_or xs i v = rw c.deref-pending-items.ensures.value at c.pending-item.is in
    each_next _ _ _ (map pending_view xs) i (pending_view v) _ (rw (length-map xs pending_view) lt) (get_or-map pending_view xs i v (pending_view v) lt ∙ ap pending_view (sym here)) c.in_ok-read_pending.ensures c.loop-pending.invariant
