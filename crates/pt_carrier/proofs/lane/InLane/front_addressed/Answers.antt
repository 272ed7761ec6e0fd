-- `InLane::front_addressed`: its contract.
use Rattle.std.proofs.Common.{◌≡◌, [], ◌∷◌, map, ap, refl, subst}
use mathlib.Core.List.{IsPrefix}
use Rattle.pt_carrier.specs.Lanes.{Receiving, on_lane}
use Rattle.pt_carrier.proofs.lane.InLane.front_addressed.Goals as goal

pub returns : goal.returns
returns c =
    let i = c.self.inside in
    let front = c.peek_known-letter.result.now in
    let shown = on_lane i.from i.to front in
    let seen = c.peek_known-letter.ensures in
    subst (λ (lane : Receiving). IsPrefix (shown ∷ []) lane.known × (shown.from.shard ≡ lane.from) × (shown.to.shard ≡ lane.to)) c.self.view_is
    ((map (on_lane i.from i.to) seen.0, ap (map (on_lane i.from i.to)) seen.1), refl, refl)
