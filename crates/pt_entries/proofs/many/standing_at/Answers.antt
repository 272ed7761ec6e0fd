-- `standing_at`: its contract.
use Rattle.std.proofs.Common.{◌+◌, ◌++◌, drop, sym, ap, ◌∙◌}
use Rattle.std.specs.Map.Iter.{deref_pair}
use Rattle.std.specs.Option.{option_map, option_to_list}
use Rattle.pt_entries.specs.Gaps.{present, standing}
use Rattle.pt_entries.proofs.GapLemmas.{present_from}
use Rattle.pt_entries.proofs.many.standing_at.Goals as goal

pub returns-in-Some : goal.returns-in-Some
returns-in-Some g c =
    let places = c.args.places.now.entries in
    let at = sym c.get_index.ensures.entry ∙ ap (option_map deref_pair) c.unwrap.ensures in
    present_from places c.args.at _ at
    ∙ ap (λ v. option_to_list (standing (c.unwrap.result.0.now, v)) ++ present (drop (c.args.at + 1) places)) c.in-Some.is

pub returns-in-None : goal.returns-in-None
returns-in-None g c =
    let places = c.args.places.now.entries in
    let at = sym c.get_index.ensures.entry ∙ ap (option_map deref_pair) c.unwrap.ensures in
    present_from places c.args.at _ at
    ∙ ap (λ v. option_to_list (standing (c.unwrap.result.0.now, v)) ++ present (drop (c.args.at + 1) places)) c.in-None.is
