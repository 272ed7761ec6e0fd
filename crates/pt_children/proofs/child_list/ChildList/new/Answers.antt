-- `ChildList::new`: the invariant of what it returns.
use Rattle.std.proofs.Common.{subst, sym, ◌∙◌}
use Rattle.indexmap.specs.IndexMap.{get}
use Rattle.pt_signal.specs.Values.{same_pid}
use Rattle.pt_children.specs.Spans.{AreSpans}
use Rattle.pt_children.proofs.Knowing.{none_knows}
use Rattle.pt_children.proofs.child_list.ChildList.new.Goals as goal

pub invariant_of-result : goal.invariant_of-result
invariant_of-result c =
    let spans = subst (AreSpans c.of-spans.result) c.as_slice.ensures.value c.of-spans.ensures in
    record {
      spans = spans;
      known = λ empty. none_knows (get same_pid c.new.result) c.of-spans.result c.args.children.items spans (sym c.is_empty.ensures ∙ empty);
    }
