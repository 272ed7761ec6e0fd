-- `Outs::is_full`: its clauses `same`, `full`, `room` and `looks`.
use Rattle.std.proofs.Common.{Bool, true, false, map, set, sym, ap, ◌∙◌, arith}
use Rattle.std.specs.Bool.{OnTrue, OnFalse}
use Rattle.std.proofs.lemmas.List.{map-set}
use Rattle.pt_carrier.specs.Lanes.{Sending}
use Rattle.pt_carrier.specs.Ends.{OutEnds}
use Rattle.pt_signal.proofs.Lists.{map-set_same, get_or-map_read}
use Rattle.pt_carrier.proofs.Posting.{lane_in, seen_now, full_at, place_at}
use Rattle.pt_carrier.proofs.ends.Outs.is_full.Goals as goal

on_true : (b : Bool) {P Q : Type 0} → (P → Q) → OnTrue b P → OnTrue b Q
on_true true f h = f h
on_true false f h = tt

on_false : (b : Bool) {P Q : Type 0} → (P → Q) → OnFalse b P → OnFalse b Q
on_false true f h = tt
on_false false f h = f h

pub returns-clause-same : goal.returns-clause-same
returns-clause-same c =
    let i = c.self.inside in
    let within = lane_in i.number i.lanes.items c.args.self.now c.from.result c.args.to c.self.view_is c.requires c.from.ensures in
    let rings = map-set_same (λ (s : Sending). s.ring) i.lanes.items _ _ _ within c.index_mut.ensures.value c.is_full.ensures.same.0 in (
      (λ k. record { number = i.number; rings = rings k }) ∙ ap (λ (o : OutEnds). o.place) c.self.view_is,
      map-set_same (λ (s : Sending). s.posted) i.lanes.items _ _ _ within c.index_mut.ensures.value c.is_full.ensures.same.3 ∙ ap (λ (o : OutEnds). o.posted) c.self.view_is,
      map-set_same (λ (s : Sending). s.capacity) i.lanes.items _ _ _ within c.index_mut.ensures.value c.is_full.ensures.knows.0 ∙ ap (λ (o : OutEnds). o.capacity) c.self.view_is,
    )

pub returns-clause-full : goal.returns-clause-full
returns-clause-full c =
    let i = c.self.inside in
    let within = lane_in i.number i.lanes.items c.args.self.now c.from.result c.args.to c.self.view_is c.requires c.from.ensures in
    rw (← c.from.ensures) (on_true c.is_full.result (full_at i.number i.lanes.items c.from.result c.is_full.new.self within) c.is_full.ensures.full)

pub returns-clause-room : goal.returns-clause-room
returns-clause-room c =
    let i = c.self.inside in
    let within = lane_in i.number i.lanes.items c.args.self.now c.from.result c.args.to c.self.view_is c.requires c.from.ensures in
    rw (← c.from.ensures) (on_false c.is_full.result (place_at i.number i.lanes.items c.from.result c.is_full.new.self within) c.is_full.ensures.room)

pub returns-clause-looks : goal.returns-clause-looks
returns-clause-looks c =
    let i = c.self.inside in
    let within = lane_in i.number i.lanes.items c.args.self.now c.from.result c.args.to c.self.view_is c.requires c.from.ensures in
    let now = seen_now i.number i.lanes.items c.from.result c.is_full.new.self within in
    let before = get_or-map_read (λ (s : Sending). s.seen) i.lanes.items c.from.result _ 0 within c.index_mut.ensures.value in
    rw (← c.self.view_is, ← c.from.ensures) (record {
      more = omega (arith, now, before, c.is_full.ensures.knows.1);
      others = map-set (λ (s : Sending). s.seen) i.lanes.items c.from.result c.is_full.new.self ∙ ap (set (map (λ (s : Sending). s.seen) i.lanes.items) c.from.result) (sym now);
    })
