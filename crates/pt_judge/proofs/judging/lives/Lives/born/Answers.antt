-- `Lives::born`: its contract.
use Rattle.std.proofs.Common.{slice_get, ap, ◌∙◌}
use Rattle.std.specs.Map.{keys_of}
use Rattle.pt_judge.proofs.judging.lives.Lives.born.Goals as goal

pub returns : goal.returns
returns c = c.copied.ensures ∙ c.get_index.ensures.key ∙ ap (λ z. slice_get z c.args.place) c.self.invariant ∙ ap (λ z. slice_get (keys_of z) c.args.place) c.self.view_is
