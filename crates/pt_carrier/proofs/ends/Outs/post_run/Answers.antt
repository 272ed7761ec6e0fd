-- `Outs::post_run`: its clauses `same`, `posted`, `full` and `looks`.
use Rattle.std.proofs.Common.{map, set, sym, ap, ◌∙◌, arith}
use Rattle.std.proofs.lemmas.List.{map-set}
use Rattle.pt_carrier.specs.Lanes.{Sending}
use Rattle.pt_carrier.specs.Ends.{OutEnds}
use Rattle.pt_signal.proofs.Lists.{map-set_same, map-set_longer, get_or-map_read}
use Rattle.pt_carrier.proofs.Posting.{lane_in, seen_now, full_at}
use Rattle.pt_carrier.proofs.ends.Outs.post_run.Goals as goal

pub returns-clause-same : goal.returns-clause-same
returns-clause-same c =
    let i = c.self.inside in
    let within = lane_in i.number i.lanes.items c.args.self.now c.from.result c.args.to c.self.view_is c.requires.to c.from.ensures in
    let rings = map-set_same (λ (s : Sending). s.ring) i.lanes.items _ _ _ within c.index_mut.ensures.value c.post_run.ensures.same.0 in (
      (λ k. record { number = i.number; rings = rings k }) ∙ ap (λ (o : OutEnds). o.place) c.self.view_is,
      map-set_same (λ (s : Sending). s.capacity) i.lanes.items _ _ _ within c.index_mut.ensures.value c.post_run.ensures.knows.0 ∙ ap (λ (o : OutEnds). o.capacity) c.self.view_is,
    )

pub returns-clause-posted : goal.returns-clause-posted
returns-clause-posted c =
    let i = c.self.inside in
    let within = lane_in i.number i.lanes.items c.args.self.now c.from.result c.args.to c.self.view_is c.requires.to c.from.ensures in
    rw (← c.self.view_is, ← c.from.ensures) (map-set_longer (λ (s : Sending). s.posted) i.lanes.items _ _ _ _ within c.index_mut.ensures.value c.post_run.ensures.posted)

pub returns-clause-full : goal.returns-clause-full
returns-clause-full c short =
    let i = c.self.inside in
    let within = lane_in i.number i.lanes.items c.args.self.now c.from.result c.args.to c.self.view_is c.requires.to c.from.ensures in
    rw (← c.from.ensures) (full_at i.number i.lanes.items c.from.result c.post_run.new.self within (c.post_run.ensures.full short))

pub returns-clause-looks : goal.returns-clause-looks
returns-clause-looks c =
    let i = c.self.inside in
    let within = lane_in i.number i.lanes.items c.args.self.now c.from.result c.args.to c.self.view_is c.requires.to c.from.ensures in
    let now = seen_now i.number i.lanes.items c.from.result c.post_run.new.self within in
    let before = get_or-map_read (λ (s : Sending). s.seen) i.lanes.items c.from.result _ 0 within c.index_mut.ensures.value in
    rw (← c.self.view_is, ← c.from.ensures) (record {
      more = omega (arith, now, before, c.post_run.ensures.knows.1);
      others = map-set (λ (s : Sending). s.seen) i.lanes.items c.from.result c.post_run.new.self ∙ ap (set (map (λ (s : Sending). s.seen) i.lanes.items) c.from.result) (sym now);
    })
