-- `first_failed`: its contract, and its loop over `place`.
use Rattle.std.proofs.Common.{length, sym, ap, ◌∙◌, arith}
use Rattle.std.proofs.lemmas.Option.{slice_get-get_or}
use Rattle.pt_children.specs.Trying.{earlier}
use Rattle.pt_children.proofs.Spanning.{failed_more, failed_next}
use Rattle.pt_children.proofs.trial.first_failed.Goals as goal

pub loop-place-init : goal.loop-place-init
loop-place-init c = sym (failed_more c.args.children.now 0 c.args.from c.requires.before (omega arith))

pub loop-place-preserved : goal.loop-place-preserved
loop-place-preserved c =
    failed_next c.args.children.now c.loop-place.place _ c.loop-place.first c.earlier-first.result c.loop-place.invariant
    (slice_get-get_or c.args.children.now c.loop-place.place _ (omega arith)) (c.earlier-first.ensures ∙ ap (earlier c.loop-place.first c.loop-place.place) c.tried_at.ensures)

pub returns : goal.returns
returns c =
    c.loop-place.invariant ∙ sym (failed_more c.args.children.now c.loop-place.place (length c.args.children.now)
    (λ j x a b at. c.requires.behind j x (omega (arith, a)) b at) (omega arith))
