-- `Span::with`: what `tight` requires.
use Rattle.std.proofs.Common.{sym, ◌∙◌}
use Rattle.std.proofs.lemmas.Option.{slice_get-get_or}
use Rattle.pt_children.specs.Spans.{is_kind}
use Rattle.pt_children.proofs.Spanning.{but_in, but_not}
use Rattle.pt_children.proofs.spans.Span.with.Goals as goal

pub tight-requires : goal.tight-requires
tight-requires c =
    let grown = c.and.ensures in
    but_in (is_kind c.args.kind) c.args.self c.args.place c.args.children.now c.requires.holds c.and.result c.requires.within grown.from grown.to grown.within grown.outside

pub tight-requires-2 : goal.tight-requires-2
tight-requires-2 c =
    but_not (is_kind c.args.kind) c.args.self c.args.place c.args.children.now c.requires.holds _ (slice_get-get_or c.args.children.now c.args.place _ c.requires.within)
    (sym c.is_of.ensures ∙ c.if-is_of.false)
