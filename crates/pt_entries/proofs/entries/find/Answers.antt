-- `find`: its contract.
use Rattle.std.proofs.Common.{sym, ◌∙◌}
use Rattle.std.proofs.lemmas.Option.{slice_get-get_or}
use Rattle.pt_entries.proofs.FewLemmas.{first_from_position, first-within, first-lookup, lookup-no_place}
use Rattle.pt_entries.proofs.entries.find.Goals as goal

pub returns-in-Some : goal.returns-in-Some
returns-in-Some g c =
    let test = g.K.PartialEq.eq c.args.key.now in
    let few = c.args.few.now in
    let place = c.in-Some.place in
    let first = first_from_position test few place (sym c.place_of.ensures ∙ c.in-Some.is) in
    sym (first-lookup test few place _ first (slice_get-get_or few place _ (first-within test few place first)))

pub returns-in-None : goal.returns-in-None
returns-in-None g c = sym (lookup-no_place (g.K.PartialEq.eq c.args.key.now) c.args.few.now (sym c.place_of.ensures ∙ c.in-None.is))
