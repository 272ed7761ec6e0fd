-- `Spans::last_alive`: its contract.
use Rattle.std.proofs.Common.{sym, ◌∙◌}
use Rattle.std.proofs.lemmas.Option.{slice_get-get_or}
use Rattle.pt_children.specs.declared.spans.Kind.TheVariants.{Alive, Unwanted}
use Rattle.pt_children.specs.Spans.{is_kind}
use Rattle.pt_children.proofs.Spanning.{last_of_all, last_within, last_unwanted, no_last}
use Rattle.pt_children.proofs.spans.Spans.last_alive.Goals as goal

pub returns-in-Some : goal.returns-in-Some
returns-in-Some c =
    let is = sym c.last_from.ensures ∙ c.in-Some.is in
    c.leaving.ensures ∙ last_of_all c.args.self c.args.children.now c.args.first c.requires c.in-Some.place _ is
    (slice_get-get_or c.args.children.now c.in-Some.place _ (last_within (is_kind Alive) c.args.first c.args.self.alive c.args.children.now c.in-Some.place c.requires.alive is))

pub returns-in-Some-last_from : goal.returns-in-Some-last_from
returns-in-Some-last_from c =
    let is = sym c.last_from-2.ensures ∙ c.in-Some-last_from.is in
    c.leaving-in-Some-last_from.ensures ∙ last_unwanted c.args.self c.args.children.now c.args.first c.requires c.in-Some-last_from.place _ (sym c.last_from.ensures ∙ c.in_default.is)
    is (slice_get-get_or c.args.children.now c.in-Some-last_from.place _ (last_within (is_kind Unwanted) 0 c.args.self.unwanted c.args.children.now c.in-Some-last_from.place c.requires.unwanted is))

pub returns-in-None : goal.returns-in-None
returns-in-None c =
    no_last c.args.self c.args.children.now c.args.first c.requires (sym c.last_from.ensures ∙ c.in_default.is) (sym c.last_from-2.ensures ∙ c.in-None.is)
