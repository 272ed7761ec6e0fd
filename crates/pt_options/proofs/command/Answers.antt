-- `command`: its contract.
use Rattle.std.proofs.Common.{◌≡◌, ◌∙◌, [], ◌∷◌, map, ap, ap₂}
use Rattle.std.specs.Prelude.{codes}
use Rattle.std.proofs.lemmas.Result.{IfOk-weaker}
use Rattle.clap.specs.Simple.{app_of_fields, with_rule}
use Rattle.pt_options.specs.Choosing.{with_version}
use Rattle.pt_options.proofs.command.Goals as goal

pub returns : goal.returns
returns c =
    let modes_are : map (λ s. s.now) c.as_slice.result.now ≡ codes "single" ∷ codes "many" ∷ [] = ap (map (λ s. s.now)) c.as_slice.ensures in
    let shows_are : map (λ s. s.now) c.as_slice-3.result.now ≡ codes "summary" ∷ codes "history" ∷ codes "chart" ∷ codes "mermaid" ∷ codes "json" ∷ codes "steps" ∷ codes "page" ∷ [] = ap (map (λ s. s.now)) c.as_slice-3.ensures in
    let untils_are : map (λ s. s.now) c.as_slice-2.result.now ≡ codes "turns" ∷ codes "quiet" ∷ [] = ap (map (λ s. s.now)) c.as_slice-2.ensures in
    let one = c.in_ok-arg.ensures.shape c.file.ensures.1 ∙ ap₂ with_rule (ap app_of_fields c.version.ensures ∙ ap with_version (ap app_of_fields c.about.ensures ∙ c.new.ensures.app)) c.file.ensures.0 in
    let two = c.in_ok-arg-2.ensures.shape c.choice.ensures.1 ∙ ap₂ with_rule one c.choice.ensures.0 in
    let three = c.in_ok-arg-3.ensures.shape c.turns.ensures.1 ∙ ap₂ with_rule two c.turns.ensures.0 in
    let four = c.in_ok-arg-4.ensures.shape c.choice-2.ensures.1 ∙ ap₂ with_rule three c.choice-2.ensures.0 in
    let five = c.in_ok-arg-5.ensures.shape c.epochs.ensures.1 ∙ ap₂ with_rule four c.epochs.ensures.0 in
    let six = c.in_ok-arg-6.ensures.shape c.choice-3.ensures.1 ∙ ap₂ with_rule five c.choice-3.ensures.0 in
    IfOk-weaker c.arg-7.result _ _ (λ made h. (c.as_slice.result, c.as_slice-2.result, c.as_slice-3.result, modes_are, untils_are, shows_are, h.shape c.explain.ensures.1 ∙ ap₂ with_rule six c.explain.ensures.0)) c.arg-7.ensures
