-- `process_text`: its contract.
use Rattle.std.proofs.Common.{map, sym, ◌∙◌}
use Rattle.std.proofs.lemmas.Result.{IfOk-weaker}
use Rattle.serde_json.specs.View.{view}
use Rattle.pt_script.specs.Spots.{text_within}
use Rattle.pt_script.proofs.SpotFacts.{inside_script}
use Rattle.pt_script.proofs.explanation.spot.process_text.Goals as goal

pub returns-in-Some : goal.returns-in-Some
returns-in-Some c =
    let inside = inside_script (view c.args.script.now) c.args.text.now c.args.number (map view c.list_at-list.result.now) c.inside-processes.result.now c.in_ok-value_in.field-0.now c.list_at-list.ensures c.inside-processes.ensures c.in_ok-value_in.ensures in
    IfOk-weaker c.text_within.result _ _ (λ r h. h ∙ sym (inside ∙ c.in-Some.ensures (text_within 63))) c.text_within.ensures

pub returns-in-None : goal.returns-in-None
returns-in-None c =
    let inside = inside_script (view c.args.script.now) c.args.text.now c.args.number (map view c.list_at-list.result.now) c.inside-processes.result.now c.in_ok-value_in.field-0.now c.list_at-list.ensures c.inside-processes.ensures c.in_ok-value_in.ensures in
    sym (inside ∙ c.in-None.ensures (text_within 63))
