-- `write`: its loop.
use Rattle.std.proofs.Common.{ℕ, ◌++◌, take, slice_get, ap, sym, ◌∙◌}
use Rattle.std.specs.List.{flat_map}
use Rattle.std.specs.String.{string_bytes}
use Rattle.std.proofs.lemmas.List.{flat_map_more}
use Rattle.pt_texts.specs.declared.records.Record.{Record}
use Rattle.pt_texts.specs.Text.{record_line}
use Rattle.pt_auditor.specs.Saving.{seen_record}
use Rattle.pt_auditor.proofs.Resting.{taken_more}
use Rattle.pt_auditor.proofs.seen.SeenExits.write.Goals as goal

pub loop-place-preserved : goal.loop-place-preserved
loop-place-preserved c =
    let place = c.loop-place.place in
    let all = c.args.self.now in
    let x : (ℕ × ℕ × ℕ) × ℕ = (c.in-Some.slot.now, c.in-Some.version.now) in
    let before = string_bytes c.args.text.now in
    c.in_ok-write_line.ensures ∙ ap (λ (z : Record). string_bytes c.loop-place.text ++ record_line z) c.seen_line.ensures
    ∙ ap (λ z. z ++ record_line (seen_record x)) c.loop-place.invariant
    ∙ flat_map_more (λ z. record_line (seen_record z)) before (take place all) x
    ∙ ap (λ z. before ++ flat_map (λ z. record_line (seen_record z)) z) (sym (taken_more all place x (c.in-Some.ensures.entry ∙ ap (λ z. slice_get z place) c.self.view_is)))
