-- `ChildList::push`: what `with` and `moves` require.
use Rattle.std.proofs.Common.{◌≡◌, ℕ, length, subst, sym, ◌∙◌, arith}
use Rattle.indexmap.specs.IndexMap.{get}
use Rattle.pt_signal.specs.Values.{same_pid}
use Rattle.pt_children.specs.Spans.{AreSpansBut, KnowsBut}
use Rattle.pt_children.proofs.Knowing.{push_knows}
use Rattle.pt_children.proofs.Spanning.{push_buts}
use Rattle.pt_children.proofs.child_list.ChildList.push.Goals as goal

pub with-self-inside-requires-clause-others : goal.with-self-inside-requires-clause-others
with-self-inside-requires-clause-others c =
    let xs = c.self.inside.items.items in
    let len : c.len-place.result ≡ length xs = omega arith in
    subst (λ (n : ℕ). AreSpansBut c.self.inside.spans n c.as_slice.result.now) (sym len)
    (subst (AreSpansBut c.self.inside.spans (length xs)) (sym (c.as_slice.ensures.value ∙ c.in_ok-push.ensures.items))
    (push_buts c.self.inside.spans xs c.args.child c.self.invariant.spans))

pub moves-self-inside-requires-clause-others : goal.moves-self-inside-requires-clause-others
moves-self-inside-requires-clause-others c =
    let xs = c.self.inside.items.items in
    let f = get same_pid c.self.inside.places in
    let len : c.len-place.result ≡ length xs = omega arith in
    subst (λ (n : ℕ). KnowsBut n f c.as_slice-then-self.result.now) (sym len)
    (subst (KnowsBut (length xs) f) (sym (c.as_slice-then-self.ensures.value ∙ c.in_ok-push.ensures.items))
    (push_knows f xs c.args.child (c.self.invariant.known c.if-self.true)))
