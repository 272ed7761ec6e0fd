-- `ChildList::all_started`: its contract.
use Rattle.std.proofs.Common.{not, ◌∙◌, ap}
use Rattle.std.specs.List.{list_all}
use Rattle.pt_children.specs.declared.children.Child.{Child}
use Rattle.pt_children.specs.Children.{is_missing}
use Rattle.pt_children.proofs.Spanning.{all_is}
use Rattle.pt_children.proofs.child_list.ChildList.all_started.Goals as goal

pub returns : goal.returns
returns c =
    c.is_empty.ensures ∙ all_is is_missing c.self.inside.spans.missing c.self.inside.items.items c.self.invariant.spans.missing
    ∙ ap (list_all (λ (x : Child). not (is_missing x))) c.self.view_is
