-- `take`: its clauses `value` and `rest`.
use Rattle.std.proofs.Common.{sym, ap, ◌∙◌, Some}
use Rattle.std.proofs.lemmas.Option.{slice_get-get_or}
use Rattle.pt_entries.proofs.MapLemmas.{remove_entry-absent}
use Rattle.pt_entries.proofs.FewLemmas.{first_from_position, first-within, first-lookup, first-remove, lookup-no_place}
use Rattle.pt_entries.proofs.entries.take.Goals as goal

pub returns-in-Some-clause-value : goal.returns-in-Some-clause-value
returns-in-Some-clause-value g c =
    let test = g.K.PartialEq.eq c.args.key.now in
    let few = c.args.few.now.items in
    let place = c.in-Some.place in
    let at = sym (rw c.deref.ensures.value at c.place_of.ensures) ∙ c.in-Some.is in
    let first = first_from_position test few place at in
    let there = slice_get-get_or few place c.remove.result (first-within test few place first) ∙ ap Some (sym c.remove.ensures.value) in
    sym (first-lookup test few place c.remove.result first there)

pub returns-in-Some-clause-rest : goal.returns-in-Some-clause-rest
returns-in-Some-clause-rest g c =
    let test = g.K.PartialEq.eq c.args.key.now in
    let few = c.args.few.now.items in
    let place = c.in-Some.place in
    let at = sym (rw c.deref.ensures.value at c.place_of.ensures) ∙ c.in-Some.is in
    c.remove.ensures.items ∙ sym (first-remove test few place (first_from_position test few place at))

pub returns-in-None-clause-value : goal.returns-in-None-clause-value
returns-in-None-clause-value g c =
    let at = sym (rw c.deref.ensures.value at c.place_of.ensures) ∙ c.in-None.is in
    sym (lookup-no_place (g.K.PartialEq.eq c.args.key.now) c.args.few.now.items at)

pub returns-in-None-clause-rest : goal.returns-in-None-clause-rest
returns-in-None-clause-rest g c =
    let at = sym (rw c.deref.ensures.value at c.place_of.ensures) ∙ c.in-None.is in
    sym (remove_entry-absent _ _ (lookup-no_place (g.K.PartialEq.eq c.args.key.now) c.args.few.now.items at))
