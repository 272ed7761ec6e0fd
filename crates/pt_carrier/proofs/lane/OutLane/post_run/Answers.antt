-- `OutLane::post_run`: its clause `posted`.
use Rattle.std.proofs.Common.{◌≡◌, List, ◌++◌, map, length, take, sym, ap, ◌∙◌, subst}
use Rattle.rtrb.specs.Ring.{sent}
use Rattle.pt_signal.specs.declared.letter.Letter.{Letter}
use Rattle.pt_carrier.specs.Bypass.{through}
use Rattle.pt_carrier.specs.Lanes.{Sending, AllGo, on_lane}
use Rattle.pt_carrier.proofs.Posting.{front_shown}
use Rattle.pt_carrier.proofs.Through.{shown_more}
use Rattle.pt_carrier.proofs.lane.OutLane.post_run.Goals as goal

pub returns-clause-posted : goal.returns-clause-posted
returns-clause-posted c =
    let i = c.self.inside in
    let push = c.push_partial_slice in
    let letters = c.args.letters.now in
    let shown = λ (ring : List Letter). map (on_lane i.from i.to) (through i.bypass.log i.bypass.count ring) in
    let names = subst (λ (lane : Sending). AllGo lane.from lane.to letters) (sym c.self.view_is) c.requires in
    subst (λ (lane : Sending). shown (sent push.new.self) ≡ lane.posted ++ take (length push.result.0.now) letters) c.self.view_is
    (ap shown push.ensures.sent ∙ shown_more i.from i.to i.bypass.log i.bypass.count (sent i.ring) push.result.0.now c.self.invariant.3
    ∙ ap (λ z. shown (sent i.ring) ++ z) (front_shown i.from i.to letters push.result.0.now push.result.1.now names push.ensures.parts))
