-- `AtRest::left_over`: its loop over `d`.
use Rattle.std.proofs.Common.{◌++◌, length, sym, ap, ◌∙◌}
use Rattle.pt_gathered.specs.LeftOvers.{left_from}
use Rattle.pt_gathered.proofs.Places.{joined_more}
use Rattle.pt_gathered.proofs.at_rest.AtRest.left_over.Goals as goal

pub loop-d-preserved : goal.loop-d-preserved
loop-d-preserved c =
    let g = c.args.self.now in
    let d = c.loop-d.d in
    c.in_ok-list_from.ensures ∙ ap (λ z. z ++ left_from g d (length g.shards)) c.loop-d.invariant ∙ sym (joined_more (λ d. left_from g d (length g.shards)) d)
