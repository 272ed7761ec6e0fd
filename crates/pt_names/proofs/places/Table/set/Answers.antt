-- `Table::set`: its contract where the group is there, and the invariant of `self`.
use Rattle.std.proofs.Common.{Some, [], unwrap_or, ap, sym, ◌∙◌}
use Rattle.std.specs.Map.{set_value}
use Rattle.std.proofs.lemmas.Map.Steps.{set_value_same}
use Rattle.pt_names.specs.Groups.{same_group, counts_in, count_in}
use Rattle.pt_names.proofs.Grouped.{none_empty, set_filled, on_err, is_there}
use Rattle.pt_names.proofs.places.Table.set.Goals as goal

pub invariant_of-self : goal.invariant_of-self
invariant_of-self c =
    let old = c.self.inside.groups.entries in
    let was = c.in-Some.members.now in
    let is = c.set.new.self in
    none_empty c.args.group old (c.get_mut.follows.lender is).entries (Some is) c.self.invariant
    (set_filled _ c.set.result c.args.pid c.args.count was is c.requires c.set.ensures.sets c.set.ensures.same
    (λ e. c.self.invariant c.args.group (sym c.in-Some.ensures.value ∙ e)))
    ((c.get_mut.follows.holds is).3 (is_there _ was c.in-Some.ensures.value)).0

pub returns-in-Some-clause-same : goal.returns-in-Some-clause-same
returns-in-Some-clause-same c =
    let old = c.self.inside.groups.entries in
    let was = c.in-Some.members.now in
    let is = c.set.new.self in
    on_err _ _ c.set.result
    (λ h. (
      (c.get_mut.follows.holds is).0 ∙ ap (set_value (same_group c.args.group) old) h.0
          ∙ set_value_same (same_group c.args.group) old was (sym c.in-Some.ensures.value) ∙ c.self.view_is,
      ap (λ z. count_in (counts_in z c.args.group) c.args.pid) (sym c.self.view_is)
          ∙ ap (λ o. count_in (unwrap_or o []) c.args.pid) (sym c.in-Some.ensures.value) ∙ h.1,
    ))
    c.set.ensures.same
