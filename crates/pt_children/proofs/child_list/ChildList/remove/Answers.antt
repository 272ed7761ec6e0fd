-- `ChildList::remove`: the invariant of `self`.
use Rattle.std.proofs.Common.{subst, sym, ◌∙◌}
use Rattle.indexmap.specs.IndexMap.{get}
use Rattle.pt_signal.specs.Values.{same_pid}
use Rattle.pt_children.specs.Spans.{AreSpans}
use Rattle.pt_children.proofs.Knowing.{none_knows}
use Rattle.pt_children.proofs.child_list.ChildList.remove.Goals as goal

pub invariant_of-self : goal.invariant_of-self
invariant_of-self c =
    let spans = subst (AreSpans c.of-self-inside.result) c.as_slice.ensures.value c.of-self-inside.ensures in
    record {
      spans = spans;
      known = λ empty. none_knows (get same_pid c.self.inside.places) c.of-self-inside.result c.remove.new.self.items spans (sym c.is_empty-self-inside.ensures ∙ empty);
    }
