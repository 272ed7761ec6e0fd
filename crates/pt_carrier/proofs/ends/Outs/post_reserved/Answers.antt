-- `Outs::post_reserved`: its clauses `same` and `posted`.
use Rattle.std.proofs.Common.{ap, ◌∙◌}
use Rattle.pt_carrier.specs.Lanes.{Sending}
use Rattle.pt_carrier.specs.Ends.{OutEnds}
use Rattle.pt_signal.proofs.Lists.{map-set_same, map-set_more}
use Rattle.pt_carrier.proofs.Posting.{lane_in}
use Rattle.pt_carrier.proofs.ends.Outs.post_reserved.Goals as goal

pub returns-clause-same : goal.returns-clause-same
returns-clause-same c =
    let i = c.self.inside in
    let within = lane_in i.number i.lanes.items c.args.self.now c.from.result c.args.to c.self.view_is c.requires.to c.from.ensures in
    let rings = map-set_same (λ (s : Sending). s.ring) i.lanes.items _ _ _ within c.index_mut.ensures.value c.post_reserved.ensures.same.0 in (
      (λ k. record { number = i.number; rings = rings k }) ∙ ap (λ (o : OutEnds). o.place) c.self.view_is,
      map-set_same (λ (s : Sending). s.capacity) i.lanes.items _ _ _ within c.index_mut.ensures.value c.post_reserved.ensures.knows.0 ∙ ap (λ (o : OutEnds). o.capacity) c.self.view_is,
      map-set_same (λ (s : Sending). s.seen) i.lanes.items _ _ _ within c.index_mut.ensures.value c.post_reserved.ensures.knows.1 ∙ ap (λ (o : OutEnds). o.seen) c.self.view_is,
    )

pub returns-clause-posted : goal.returns-clause-posted
returns-clause-posted c =
    let i = c.self.inside in
    let within = lane_in i.number i.lanes.items c.args.self.now c.from.result c.args.to c.self.view_is c.requires.to c.from.ensures in
    rw (← c.self.view_is, ← c.from.ensures) (map-set_more (λ (s : Sending). s.posted) i.lanes.items _ _ _ _ within c.index_mut.ensures.value c.post_reserved.ensures.posted)
