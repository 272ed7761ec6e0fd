-- `InLane::pass`: its clause `passed`.
use Rattle.std.proofs.Common.{◌≡◌, List, [], ◌∷◌, ◌++◌, ◌∙◌, map, ap, refl, subst}
use Rattle.pt_signal.specs.declared.letter.Letter.{Letter}
use Rattle.rtrb.specs.Ring.{received, known_items}
use Rattle.pt_carrier.specs.Lanes.{Receiving, on_lane}
use Rattle.pt_carrier.specs.Bypass.{through}
use Rattle.pt_carrier.proofs.Through.{shown_more}
use Rattle.pt_carrier.proofs.lane.InLane.pass.Goals as goal

pub returns-clause-passed : goal.returns-clause-passed
returns-clause-passed c =
    let i = c.self.inside in
    let shown = on_lane i.from i.to c.pop_known.result in
    let popped = c.pop_known.ensures.received in
    let known = map (on_lane i.from i.to) (known_items c.pop_known.new.self) in
    let over = λ (ring : List Letter). map (on_lane i.from i.to) (through i.bypass.log i.bypass.count ring) in
    let collected = over (received c.pop_known.new.self) in
    subst (λ (lane : Receiving). (letter : Letter) × (lane.known ≡ letter ∷ known) × (collected ≡ lane.collected ++ letter ∷ []) × (letter.from.shard ≡ lane.from) × (letter.to.shard ≡ lane.to)) c.self.view_is
    (shown, ap (map (on_lane i.from i.to)) popped.1, ap over popped.0 ∙ shown_more i.from i.to i.bypass.log i.bypass.count (received i.ring) (c.pop_known.result ∷ []) c.self.invariant.1, refl, refl)
