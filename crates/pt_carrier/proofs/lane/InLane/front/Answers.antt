-- `InLane::front`: its contract.
use Rattle.std.proofs.Common.{◌≡◌, [], ◌∷◌, subst}
use mathlib.Core.List.{IsPrefix}
use Rattle.rtrb.specs.Ring.{known_items}
use Rattle.pt_carrier.specs.Lanes.{Receiving}
use Rattle.pt_carrier.proofs.Taking.{front_known}
use Rattle.pt_carrier.proofs.lane.InLane.front.Goals as goal

pub returns : goal.returns
returns c =
    let i = c.self.inside in
    let front = c.peek_known-front.result.now in
    let from_there = c.if-front-self.false in
    let to_here = c.if-front-self-2.false in
    subst (λ (lane : Receiving). IsPrefix (front ∷ []) lane.known × (front.from.shard ≡ lane.from) × (front.to.shard ≡ lane.to)) c.self.view_is
    (front_known i.from i.to front (known_items i.ring) c.peek_known-front.ensures from_there to_here, from_there, to_here)
