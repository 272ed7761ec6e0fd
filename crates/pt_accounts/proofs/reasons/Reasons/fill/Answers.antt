-- `Reasons::fill`: the same reason in each place.
use Rattle.std.proofs.Common.{◌≡◌, ◌++◌, ◌∷◌, [], length, replicate, None, ap, ◌∙◌}
use Rattle.std.specs.Prelude.{option_to_list}
use Rattle.pt_accounts.specs.Runs.{AreRuns, expanded, ReasonsState}
use Rattle.pt_accounts.proofs.Ends.{filled}
use Rattle.pt_accounts.proofs.reasons.Reasons.fill.Goals as goal

whole : (c : goal.After-shrink_to) → AreRuns 0 None c.shrink_to.new.self.items × (expanded 0 c.shrink_to.new.self.items ≡ replicate (length (expanded 0 c.self.inside.runs.items)) c.args.reason)
whole c =
    filled c.self.inside.runs.items c.pop.new.self.items c.in-Some.run' c.args.reason c.shrink_to.new.self.items
    (c.pop.ensures.items ∙ ap (λ o. c.pop.new.self.items ++ option_to_list o) c.in-Some.is) c.self.invariant
    (c.shrink_to.ensures.items ∙ c.push_reserved.ensures.items ∙ ap (λ z. z ++ record { up_to = c.in-Some.run'.up_to; reason = c.args.reason } ∷ []) c.clear.ensures.items)

pub invariant_of-self : goal.invariant_of-self
invariant_of-self c = (whole c).0

pub returns-in-Some-clause-listed : goal.returns-in-Some-clause-listed
returns-in-Some-clause-listed c = (whole c).1 ∙ ap (λ (s : ReasonsState). replicate (length s.listed) c.args.reason) c.self.view_is
