-- `Heads::of`: its contract, and its loop over `value`.
use Rattle.std.proofs.Common.{◌<◌, length, map, ap, sym, ◌∙◌, arith}
use Rattle.std.proofs.lemmas.List.{get_or-map, length-map}
use Rattle.std.proofs.lemmas.Result.{err_from_is_err_and}
use Rattle.serde_json.specs.View.{view}
use Rattle.pt_script.proofs.EachFacts.{each_next, each_refuses}
use Rattle.pt_script.proofs.heads.Heads.of.Goals as goal

pub returns-in_err-read : goal.returns-in_err-read
returns-in_err-read c =
    let p = err_from_is_err_and c.from_residual.result c.from_residual.ensures.1 in
    let v = c.value-item.result in
    let xs = c.args.values.now in
    let lt : c.loop-value.value-index < length xs = omega (arith, c.loop-value-test.true) in
    rw (p.1, p.2) (each_refuses _ _ (map view xs) c.loop-value.value-index (view v) _ _ (rw (length-map xs view) lt) (get_or-map view xs c.loop-value.value-index v (view v) lt ∙ ap view (sym c.value-item.is)) c.in_err-read.ensures c.loop-value.invariant)

pub loop-value-preserved : goal.loop-value-preserved
loop-value-preserved c =
    let v = c.value-item.result in
    let xs = c.args.values.now in
    let lt : c.loop-value.value-index < length xs = omega (arith, c.loop-value-test.true) in
    each_next _ _ _ (map view xs) c.loop-value.value-index (view v) _ (rw (length-map xs view) lt) (get_or-map view xs c.loop-value.value-index v (view v) lt ∙ ap view (sym c.value-item.is)) c.in_ok-read.ensures c.loop-value.invariant
