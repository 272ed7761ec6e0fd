-- `write`: its clause `entries`.
use Rattle.std.proofs.Common.{sym, ap, ◌∙◌, Some}
use Rattle.std.proofs.lemmas.Option.{slice_get-get_or}
use Rattle.pt_entries.proofs.MapLemmas.{set_value-absent}
use Rattle.pt_entries.proofs.FewLemmas.{first_from_position, first-within, first-set, lookup-no_place}
use Rattle.pt_entries.proofs.entries.write.Goals as goal

pub returns-in-None-clause-entries : goal.returns-in-None-clause-entries
returns-in-None-clause-entries g c =
    let at = sym (rw c.deref.ensures.value at c.place_of.ensures) ∙ c.in-None.is in
    sym (set_value-absent _ _ _ (lookup-no_place (g.K.PartialEq.eq c.args.key.now) c.args.few.now.items at))

pub returns-in-Some-clause-entries : goal.returns-in-Some-clause-entries
returns-in-Some-clause-entries g c =
    let test = g.K.PartialEq.eq c.args.key.now in
    let few = c.args.few.now.items in
    let place = c.in-Some.place in
    let at = sym (rw c.deref.ensures.value at c.place_of.ensures) ∙ c.in-Some.is in
    let first = first_from_position test few place at in
    let there = slice_get-get_or few place c.index_mut.result.now (first-within test few place first) ∙ ap Some (sym c.index_mut.ensures.value) in
    sym (first-set test few place c.index_mut.result.now c.args.value first there)
