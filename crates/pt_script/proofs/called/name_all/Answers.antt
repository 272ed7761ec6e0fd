-- `name_all`: its loop over `value`.
use Rattle.std.proofs.Common.{◌<◌, ◌++◌, length, map, ap, sym, ◌∙◌, arith}
use Rattle.std.specs.String.{string_bytes}
use Rattle.std.proofs.lemmas.List.{get_or-map, length-map}
use Rattle.serde_json.specs.View.{view}
use Rattle.pt_script.specs.Called.{name_of}
use Rattle.pt_script.proofs.CalledFacts.{goes_on, one_more_process}
use Rattle.pt_script.proofs.called.name_all.Goals as goal

pub loop-value-preserved : goal.loop-value-preserved
loop-value-preserved c =
    let v = c.value-item.result in
    let xs = c.args.values.now in
    let i = c.loop-value.value-index in
    let lt : i < length xs = omega (arith, c.loop-value-test.true) in
    let start = map string_bytes c.args.names.now.items in
    goes_on start (map string_bytes c.loop-value.names.items) (map string_bytes c.name_process.new.names.items) _ _ c.loop-value.invariant c.in_ok-name_process.ensures
    ∙ ap (λ ds. start ++ map name_of ds) (one_more_process (map view xs) i (view v) (rw (length-map xs view) lt) (get_or-map view xs i v (view v) lt ∙ ap view (sym c.value-item.is)))
