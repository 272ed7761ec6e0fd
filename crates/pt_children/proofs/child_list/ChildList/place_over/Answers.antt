-- `ChildList::place_over`: its clause `place`.
use Rattle.std.proofs.Common.{◌∙◌, ap}
use Rattle.std.specs.Prelude.{position}
use Rattle.pt_children.specs.declared.children.Child.{Child}
use Rattle.pt_children.specs.Trying.{has_failed_first}
use Rattle.pt_children.proofs.Spanning.{first_is}
use Rattle.pt_children.proofs.child_list.ChildList.place_over.Goals as goal

pub returns-clause-place : goal.returns-clause-place
returns-clause-place c =
    c.first_place.ensures ∙ first_is (λ (x : Child). has_failed_first x.trial) c.self.inside.spans.over c.self.inside.items.items c.self.invariant.spans.over
    ∙ ap (position (λ (x : Child). has_failed_first x.trial)) c.self.view_is
