-- `ChildList::set`: what `with` and `moves` require.
use Rattle.std.proofs.Common.{rules, ◌≡◌, length, slice_set, ap, subst, sym, refl, arith}
use Rattle.std.proofs.lemmas.Option.{slice_get_read}
use Rattle.indexmap.specs.IndexMap.{get}
use Rattle.pt_signal.specs.Values.{same_pid}
use Rattle.pt_children.specs.Spans.{AreSpansBut, KnowsBut}
use Rattle.pt_children.proofs.Knowing.{here_knows, set_knows}
use Rattle.pt_children.proofs.Spanning.{set_buts}
use Rattle.pt_children.proofs.child_list.ChildList.set.Goals as goal

pub with-self-inside-requires-clause-others : goal.with-self-inside-requires-clause-others
with-self-inside-requires-clause-others c =
    let xs = c.self.inside.items.items in
    let now : c.as_slice.result.now ≡ slice_set xs c.args.place c.args.child = search rules in
    subst (AreSpansBut c.self.inside.spans c.args.place) (sym now) (set_buts c.self.inside.spans xs c.args.place c.args.child c.self.invariant.spans)

pub moves-self-inside-requires-clause-others : goal.moves-self-inside-requires-clause-others
moves-self-inside-requires-clause-others c =
    let xs = c.self.inside.items.items in
    let f = get same_pid c.self.inside.places in
    let now : c.as_slice-then-self.result.now ≡ slice_set xs c.args.place c.args.child = search rules in
    subst (KnowsBut c.args.place f) (sym now) (set_knows f c.args.place xs c.args.child (c.self.invariant.known c.if-self.true))

pub moves-self-inside-requires-clause-here : goal.moves-self-inside-requires-clause-here
moves-self-inside-requires-clause-here c =
    let xs = c.self.inside.items.items in
    let count = ap length c.self.view_is in
    here_knows (get same_pid c.self.inside.places) c.args.place xs c.index.result.now
    (slice_get_read xs (length xs) c.args.place c.index.result.now refl (omega (arith, count, c.requires)) c.index.ensures) (c.self.invariant.known c.if-self.true)
