-- `ChildList::place_coming`: its clause `place`.
use Rattle.std.proofs.Common.{◌∙◌, ap}
use Rattle.pt_children.specs.Homes.{is_coming, place_coming}
use Rattle.pt_children.proofs.Spanning.{first_is}
use Rattle.pt_children.proofs.child_list.ChildList.place_coming.Goals as goal

pub returns-clause-place : goal.returns-clause-place
returns-clause-place c =
    c.first_place.ensures ∙ first_is is_coming c.self.inside.spans.coming c.self.inside.items.items c.self.invariant.spans.coming ∙ ap place_coming c.self.view_is
