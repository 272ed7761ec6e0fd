-- `text_within`: its contract.
use Rattle.std.proofs.Common.{◌-◌, map, sym, ◌∙◌, arith}
use Rattle.std.proofs.lemmas.Result.{IfOk-weaker}
use Rattle.serde_json.specs.View.{view}
use Rattle.pt_script.specs.Spots.{text_within}
use Rattle.pt_script.proofs.SpotFacts.{inside_spawn}
use Rattle.pt_script.proofs.explanation.spot.+within.Goals as goal

pub returns-in-Some : goal.returns-in-Some
returns-in-Some t c =
    let inside = inside_spawn c.args.levels (view c.args.value.now) c.args.text.now c.args.number (map view c.list_at-list.result.now) c.inside-operations.result.now c.in_ok-value_in.field-0.now (omega (arith, c.if-levels-eq0.false)) (omega (arith, c.if-number-eq0.false)) c.list_at-list.ensures c.inside-operations.ensures c.in_ok-value_in.ensures in
    IfOk-weaker c.text_within.result _ _ (λ r h. h ∙ sym (inside ∙ c.in-Some.ensures (text_within (c.args.levels - 1)))) c.text_within.ensures

pub returns-in-None : goal.returns-in-None
returns-in-None t c =
    let inside = inside_spawn c.args.levels (view c.args.value.now) c.args.text.now c.args.number (map view c.list_at-list.result.now) c.inside-operations.result.now c.in_ok-value_in.field-0.now (omega (arith, c.if-levels-eq0.false)) (omega (arith, c.if-number-eq0.false)) c.list_at-list.ensures c.inside-operations.ensures c.in_ok-value_in.ensures in
    sym (inside ∙ c.in-None.ensures (text_within (c.args.levels - 1)))
