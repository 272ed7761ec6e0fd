-- Links said before a birth that links the two, by computation.
use Rattle.std.proofs.Common.{refl, rules}
use Rattle.std.proofs.lemmas.Bool.{true≢false}
use Rattle.pt_history.specs.EarlyLinks.{born_id, EarlyLinkUnknown, EarlyLinkAbroad}

pub early_link_unknown : EarlyLinkUnknown
early_link_unknown = ((search rules, refl, refl, λ h. true≢false (h.0 refl born_id)), search rules)

pub early_link_abroad : EarlyLinkAbroad
early_link_abroad = ((search rules, refl, refl, λ h. true≢false (h.0 refl born_id)), search rules)
