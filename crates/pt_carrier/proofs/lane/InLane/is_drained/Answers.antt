-- `InLane::is_drained`: its clauses `looked` and `even`.
use Rattle.std.proofs.Common.{◌≡◌, ℕ, ◌==◌, map, length, sym, ap, ◌∙◌, refl, arith, length-append}
use Rattle.rtrb.specs.Ring.{sent, received, known_items}
use Rattle.pt_carrier.specs.Lanes.{Sending, Receiving, on_lane}
use Rattle.pt_carrier.specs.Bypass.{through}
use Rattle.pt_carrier.proofs.Lists.{IsPrefix-map}
use Rattle.pt_carrier.proofs.Through.{as_long}
use Rattle.pt_carrier.proofs.lane.InLane.is_drained.Goals as goal

pub returns-clause-looked : goal.returns-clause-looked
returns-clause-looked c =
    let open_letter = on_lane c.self.inside.from c.self.inside.to in
    rw (← c.self.view_is) (IsPrefix-map open_letter (known_items c.self.inside.ring) (known_items c.slots_beside.new.self) c.slots_beside.ensures.looked.2)

pub returns-clause-even : goal.returns-clause-even
returns-clause-even c is_even =
    let i = c.self.inside in
    let o = c.other.inside in
    let new = c.slots_beside.new in
    let looked = c.slots_beside.ensures in
    let views : length (map (on_lane o.from o.to) (through o.bypass.log o.bypass.count (sent o.ring))) ≡ length (map (on_lane i.from i.to) (through i.bypass.log i.bypass.count (received i.ring))) =
    ap (λ (lane : Sending). length lane.posted) c.other.view_is ∙ is_even ∙ sym (ap (λ (lane : Receiving). length lane.collected) c.self.view_is) in
    let long = as_long (on_lane o.from o.to) (on_lane i.from i.to) o.bypass.log i.bypass.log o.bypass.count i.bypass.count (sent o.ring) (received i.ring) views c.agree.ensures.0 c.agree.ensures.1 c.other.invariant.3 c.self.invariant.1 in
    let none : c.slots_beside.result ≡ 0 = omega (arith, looked.value, ap length looked.fifo, length-append (received new.self) (known_items new.self), ap length looked.looked.1, ap length looked.producer.1, long) in
    ap (λ (n : ℕ). n == 0) none
