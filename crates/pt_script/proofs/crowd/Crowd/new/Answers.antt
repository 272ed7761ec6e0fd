-- `Crowd::new`: the invariant of `result`.
use Rattle.std.proofs.Common.{ap, sym, ◌∙◌}
use Rattle.std.specs.Prelude.{count_by, ◌==◌}
use Rattle.std.proofs.lemmas.List.{get_or-replicate}
use Rattle.pt_script.proofs.crowd.Crowd.new.Goals as goal

pub invariant_of-result : goal.invariant_of-result
invariant_of-result c = λ k lt. get_or-replicate 64 k 0 0 lt ∙ sym (ap (count_by (λ t. t.desk == k)) c.new.ensures.items)
