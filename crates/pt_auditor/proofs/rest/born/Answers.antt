-- `born`: its loop.
use Rattle.std.proofs.Common.{◌∷◌, [], ◌++◌, ap, sym, ◌∙◌}
use Rattle.std.specs.Map.{keys_of}
use Rattle.pt_auditor.proofs.Resting.{taken_more}
use Rattle.pt_auditor.proofs.rest.born.Goals as goal

pub loop-number-preserved : goal.loop-number-preserved
loop-number-preserved c =
    c.in_ok-push-in-Some.ensures.items ∙ ap (λ z. z ++ c.in-Some.pid ∷ []) c.loop-number.invariant
    ∙ sym (taken_more (keys_of c.args.state.now.lives) c.loop-number.number c.in-Some.pid c.in-Some.ensures)
