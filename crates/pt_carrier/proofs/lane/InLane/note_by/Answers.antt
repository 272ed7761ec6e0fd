-- `InLane::note_by`: its clauses `posted` and `collected`.
use Rattle.std.proofs.Common.{◌≡◌, ℕ, ◌≤◌, List, ◌++◌, map, length, sym, ap, ◌∙◌, refl, subst, arith}
use Rattle.rtrb.specs.Ring.{sent, received}
use Rattle.pt_signal.specs.declared.letter.Letter.{Letter}
use Rattle.pt_carrier.specs.Lanes.{Sending, Receiving, AllGo, on_lane}
use Rattle.pt_carrier.specs.Bypass.{through}
use Rattle.pt_carrier.proofs.Through.{gone_by, as_long}
use Rattle.pt_carrier.proofs.lane.InLane.note_by.Goals as goal

pub returns-clause-posted : goal.returns-clause-posted
returns-clause-posted c =
    let o = c.other.inside in
    let noted = c.go_by.ensures in
    let letters = c.args.letters.now in
    let now = map (on_lane o.from o.to) (through c.go_by.new.out.log c.go_by.new.out.count (sent o.ring)) in
    let from_is = ap (λ (lane : Sending). lane.from) c.other.view_is ∙ c.requires.lane.1 in
    let to_is = ap (λ (lane : Sending). lane.to) c.other.view_is ∙ c.requires.lane.2 in
    let names = subst (λ (from : ℕ). AllGo from o.to letters) (sym from_is) (subst (λ (to : ℕ). AllGo c.args.self.now.from to letters) (sym to_is) c.requires.names) in
    subst (λ (lane : Sending). now ≡ lane.posted ++ letters) c.other.view_is
    (gone_by o.from o.to o.bypass.log o.bypass.count (sent o.ring) (sent o.ring) letters c.go_by.new.out.log c.go_by.new.out.count names noted.4 noted.6 (omega arith))

pub returns-clause-collected : goal.returns-clause-collected
returns-clause-collected c =
    let i = c.self.inside in
    let o = c.other.inside in
    let noted = c.go_by.ensures in
    let letters = c.args.letters.now in
    let posted = map (on_lane o.from o.to) (through o.bypass.log o.bypass.count (sent o.ring)) in
    let collected = map (on_lane i.from i.to) (through i.bypass.log i.bypass.count (received i.ring)) in
    let all : posted ≡ collected = ap (λ (lane : Sending). lane.posted) c.other.view_is ∙ c.requires.drained.1 ∙ sym (ap (λ (lane : Receiving). lane.collected) c.self.view_is) in
    let long = as_long (on_lane o.from o.to) (on_lane i.from i.to) o.bypass.log i.bypass.log o.bypass.count i.bypass.count (sent o.ring) (received i.ring) (ap length all) noted.0 noted.1 c.other.invariant.3 c.self.invariant.1 in
    let within : length (received i.ring) ≤ length (sent o.ring) = omega (arith, long) in
    let from_is = ap (λ (lane : Sending). lane.from) c.other.view_is ∙ c.requires.lane.1 ∙ sym (ap (λ (lane : Receiving). lane.from) c.self.view_is) in
    let to_is = ap (λ (lane : Sending). lane.to) c.other.view_is ∙ c.requires.lane.2 ∙ sym (ap (λ (lane : Receiving). lane.to) c.self.view_is) in
    let over = through o.bypass.log o.bypass.count (sent o.ring) in
    let same : map (on_lane i.from i.to) over ≡ posted = ap (λ (from : ℕ). map (on_lane from i.to) over) (sym from_is) ∙ ap (λ (to : ℕ). map (on_lane o.from to) over) (sym to_is) in
    let names = subst (λ (lane : Receiving). AllGo lane.from lane.to letters) (sym c.self.view_is) c.requires.names in
    gone_by i.from i.to o.bypass.log o.bypass.count (sent o.ring) (received i.ring) letters c.go_by.new.into.log c.go_by.new.into.count names noted.5 noted.7 within
    ∙ ap (λ z. z ++ letters) (same ∙ ap (λ (lane : Sending). lane.posted) c.other.view_is ∙ c.requires.drained.1)
