-- `Ins::first_among`: its clauses `same`, `some` and `others`, and its loop over `d`.
use Rattle.std.proofs.Common.{◌≡◌, ◌≢◌, ◌<◌, ◌≤◌, ◌⊎◌, inl, inr, length, map, [], ◌∙◌, ap, arith, get_or, set, refl, sym, below_more}
use Rattle.std.proofs.lemmas.List.{length-map}
use Rattle.std.proofs.lemmas.Grind.{elements}
use Rattle.pt_carrier.specs.Lanes.{Receiving}
use Rattle.pt_carrier.specs.Ends.{InEnds}
use Rattle.pt_signal.proofs.Lists.{map-set_same, get_or-map_read, get_or-map_set_same, get_or-map_set_other}
use Rattle.pt_carrier.proofs.Lists.{length-map_same}
use Rattle.pt_carrier.proofs.Collecting.{IsPrefix-nil, nil_where_none}
use Rattle.pt_carrier.proofs.ends.Ins.first_among.Goals as goal

pub returns-then-shows-clause-same : goal.returns-then-shows-clause-same
returns-then-shows-clause-same c =
    let inv = c.loop-d.invariant in
    let lanes = c.loop-d.self-inside.lanes.items in
    let start = c.self.inside.lanes.items in
    let desks = length-map_same (λ (s : Receiving). s.collected) lanes start inv.collected in
    let within : c.loop-d.d < length lanes = omega (arith, desks, length-map start (λ (s : Receiving). s.ring), ap (λ (o : InEnds). length o.place.rings) c.self.view_is, c.requires, c.loop-d-test.true) in
    let rings = map-set_same (λ (s : Receiving). s.ring) lanes _ _ _ within c.index_mut.ensures.value c.shows.ensures.same.0 in
    let collected = map-set_same (λ (s : Receiving). s.collected) lanes _ _ _ within c.index_mut.ensures.value c.shows.ensures.same.3 in (
      (λ i. record { number = c.loop-d.self-inside.number; rings = rings i }) ∙ inv.place ∙ ap (λ (o : InEnds). o.place) c.self.view_is,
      inv.cursor ∙ ap (λ (o : InEnds). o.cursor) c.self.view_is,
      collected ∙ inv.collected ∙ ap (λ (o : InEnds). o.collected) c.self.view_is,
    )

pub returns-then-shows-clause-some : goal.returns-then-shows-clause-some
returns-then-shows-clause-some c =
    let inv = c.loop-d.invariant in
    let lanes = c.loop-d.self-inside.lanes.items in
    let start = c.self.inside.lanes.items in
    let desks = length-map_same (λ (s : Receiving). s.collected) lanes start inv.collected in
    let rings = length-map start (λ (s : Receiving). s.ring) in
    let is_rings = ap (λ (o : InEnds). length o.place.rings) c.self.view_is in
    let within : c.loop-d.d < length lanes = omega (arith, desks, rings, is_rings, c.requires, c.loop-d-test.true) in
    let old = c.index_mut.result.now in
    let now = get_or-map_set_same (λ (s : Receiving). s.known) lanes c.loop-d.d c.shows.new.self [] within in (
      omega arith,
      omega arith,
      (
        omega (arith, within, desks, rings, is_rings),
        rw now (c.if-shows.ensures.value.0 refl),
        rw (← ap (λ (o : InEnds). get_or o.known c.loop-d.d []) c.self.view_is, ← inv.others c.loop-d.d (inr (omega arith)), get_or-map_read (λ (s : Receiving). s.known) lanes c.loop-d.d old [] within c.index_mut.ensures.value, now) c.shows.ensures.looked,
      ),
      λ k low high. (
        ap (λ (o : InEnds). get_or o.known k []) (sym c.self.view_is) ∙ (inv.none k low high).0,
        get_or-map_set_other (λ (s : Receiving). s.known) lanes c.loop-d.d k _ [] (λ e. omega arith) ∙ (inv.none k low high).1,
      ),
    )

pub returns-then-shows-clause-others : goal.returns-then-shows-clause-others
returns-then-shows-clause-others c k out =
    let inv = c.loop-d.invariant in
    let lanes = c.loop-d.self-inside.lanes.items in
    let apart : k ≢ c.loop-d.d = λ e. elim out [ inl l ↦ omega arith | inr l ↦ omega arith ] in
    let beyond : (k < c.args.low) ⊎ (c.loop-d.d ≤ k) = elim out [ inl l ↦ inl l | inr l ↦ inr (omega arith) ] in
    get_or-map_set_other (λ (s : Receiving). s.known) lanes c.loop-d.d k _ [] apart ∙ inv.others k beyond ∙ ap (λ (o : InEnds). get_or o.known k []) c.self.view_is

pub loop-d-preserved : goal.loop-d-preserved
loop-d-preserved c =
    let inv = c.loop-d.invariant in
    let lanes = c.loop-d.self-inside.lanes.items in
    let start = c.self.inside.lanes.items in
    let desks = length-map_same (λ (s : Receiving). s.collected) lanes start inv.collected in
    let within : c.loop-d.d < length lanes = omega (arith, desks, length-map start (λ (s : Receiving). s.ring), ap (λ (o : InEnds). length o.place.rings) c.self.view_is, c.requires, c.loop-d-test.true) in
    let old = c.index_mut.result.now in
    let none_now : c.shows.new.self.known ≡ [] = nil_where_none c.shows.new.self.known c.if-shows.ensures.value.1 in
    let none_before = IsPrefix-nil old.known c.shows.new.self.known c.shows.ensures.looked none_now in
    let here : get_or (map (λ (s : Receiving). s.known) start) c.loop-d.d [] ≡ [] = sym (inv.others c.loop-d.d (inr (omega arith))) ∙ get_or-map_read (λ (s : Receiving). s.known) lanes c.loop-d.d old [] within c.index_mut.ensures.value ∙ none_before in
    let here_now : get_or (map (λ (s : Receiving). s.known) (set lanes c.loop-d.d c.shows.new.self)) c.loop-d.d [] ≡ [] = get_or-map_set_same (λ (s : Receiving). s.known) lanes c.loop-d.d _ [] within ∙ none_now in
    record {
      place = (λ i. record { number = c.loop-d.self-inside.number; rings = map-set_same (λ (s : Receiving). s.ring) lanes c.loop-d.d old c.shows.new.self within c.index_mut.ensures.value c.shows.ensures.same.0 i }) ∙ inv.place;
      cursor = inv.cursor;
      collected = map-set_same (λ (s : Receiving). s.collected) lanes _ _ _ within c.index_mut.ensures.value c.shows.ensures.same.3 ∙ inv.collected;
      lanes = grind (arith, elements);
      none = λ k low high. below_more (λ k. c.args.low ≤ k → (get_or (map (λ (s : Receiving). s.known) start) k [] ≡ []) × (get_or (map (λ (s : Receiving). s.known) (set lanes c.loop-d.d c.shows.new.self)) k [] ≡ [])) c.loop-d.d
          (λ k h l. ((inv.none k l h).0, get_or-map_set_other (λ (s : Receiving). s.known) lanes c.loop-d.d k _ [] (λ e. omega arith) ∙ (inv.none k l h).1))
          (λ _. (here, here_now)) k high low;
      others = λ k out.
          let apart : k ≢ c.loop-d.d = λ e. elim out [ inl l ↦ omega arith | inr l ↦ omega arith ] in
          let beyond : (k < c.args.low) ⊎ (c.loop-d.d ≤ k) = elim out [ inl l ↦ inl l | inr l ↦ inr (omega arith) ] in
          get_or-map_set_other (λ (s : Receiving). s.known) lanes c.loop-d.d k _ [] apart ∙ inv.others k beyond;
    }
