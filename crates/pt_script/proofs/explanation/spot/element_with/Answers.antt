-- `element_with`: its contract where the element is found, and its loop over `value`.
use Rattle.std.proofs.Common.{◌<◌, length, map, ap, sym, ◌∙◌, arith}
use Rattle.std.proofs.lemmas.List.{get_or-map, length-map}
use Rattle.serde_json.specs.View.{view}
use Rattle.pt_script.specs.Spots.{inside_element}
use Rattle.pt_script.proofs.SpotFacts.{element_has, element_passed}
use Rattle.pt_script.proofs.explanation.spot.element_with.Goals as goal

pub returns-in-At : goal.returns-in-At
returns-in-At c =
    let v = c.value-item.result in
    let xs = c.args.list.now in
    let i = c.loop-value.value-index in
    let lt : i < length xs = omega (arith, c.loop-value-test.true) in
    let here = get_or-map view xs i v (view v) lt ∙ ap view (sym c.value-item.is) in
    λ inside. c.loop-value.invariant inside
    ∙ element_has (inside_element c.args.is_top c.args.levels) inside (map view xs) c.loop-value.rest.now c.loop-value.left i (view v) (rw (length-map xs view) lt) here c.in-At.ensures.0
    ∙ ap (λ t. inside (view v) t c.loop-value.left) (sym c.unblanked.ensures)

pub loop-value-preserved : goal.loop-value-preserved
loop-value-preserved c =
    let v = c.value-item.result in
    let xs = c.args.list.now in
    let i = c.loop-value.value-index in
    let lt : i < length xs = omega (arith, c.loop-value-test.true) in
    let here = get_or-map view xs i v (view v) lt ∙ ap view (sym c.value-item.is) in
    let passed = element_passed (inside_element c.args.is_top c.args.levels) in
    λ inside. c.loop-value.invariant inside
    ∙ passed inside (map view xs) c.loop-value.rest.now c.loop-value.left i (view v) c.behind_next-rest.result.now c.in-Before.more (rw (length-map xs view) lt) here c.in-Before.ensures.0 c.behind_next-rest.ensures.value c.in-Before.ensures.1
