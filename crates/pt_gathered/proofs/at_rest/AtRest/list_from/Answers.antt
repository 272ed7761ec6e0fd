-- `AtRest::list_from`: its loop over `e`.
use Rattle.std.proofs.Common.{◌++◌, append_assoc, sym, ap, ◌∙◌}
use Rattle.pt_gathered.specs.LeftOvers.{left_from, left_between}
use Rattle.pt_gathered.proofs.Places.{joined_more}
use Rattle.pt_gathered.proofs.at_rest.AtRest.list_from.Goals as goal

pub loop-e-preserved : goal.loop-e-preserved
loop-e-preserved c =
    let g = c.args.self.now in
    let d = c.args.d in
    let e = c.loop-e.e in
    let old = c.args.left.now.items in
    c.in_ok-list_between.ensures ∙ ap (λ z. z ++ left_between g d e) c.loop-e.invariant ∙ append_assoc old (left_from g d e) (left_between g d e)
    ∙ ap (λ z. old ++ z) (sym (joined_more (left_between g d) e))
