-- `Ins::pass`: its clauses `collects`, `place` and `others`.
use Rattle.std.proofs.Common.{◌+◌, ◌%◌, ◌<◌, length, [], ◌∙◌, ap, arith, get_or, sym}
use Rattle.std.proofs.lemmas.List.{length-map}
use Rattle.pt_carrier.specs.Lanes.{Receiving}
use Rattle.pt_carrier.specs.Ends.{InEnds}
use Rattle.pt_signal.proofs.Lists.{map-set_same, map-set_more, get_or-map_read, get_or-map_set_same, get_or-map_set_other}
use Rattle.pt_carrier.proofs.Collecting.{IsPrefix-is}
use Rattle.pt_carrier.proofs.ends.Ins.pass.Goals as goal

pub returns-clause-collects : goal.returns-clause-collects
returns-clause-collects c =
    let lanes = c.self.inside.lanes.items in
    let d = c.from.result in
    let rings = length-map lanes (λ (s : Receiving). s.ring) in
    let is_rings = ap (λ (o : InEnds). length o.place.rings) c.self.view_is in
    let within : d < length lanes = omega (arith, rings, is_rings, c.requires.0, c.from.ensures) in
    let old = c.index_mut.result.now in
    let its = c.self.invariant.3 d old within in
    let passed = c.pass.ensures.passed in
    rw (← c.self.view_is, ← c.from.ensures) (
      passed.0,
      record {
        from_desk = omega (arith, within, rings);
        collected = map-set_more (λ (s : Receiving). s.collected) lanes _ _ _ _ within c.index_mut.ensures.value passed.2;
        cursor = c.next_desk-self-inside.ensures ∙ ap (λ n. (n + 1) % c.len.result) (sym c.from.ensures) ∙ ap (λ n. (d + 1) % n) (omega (arith, c.len.ensures, rings, c.self.inside.lanes.ok.0));
        from_there = passed.3 ∙ ap (λ (s : Receiving). s.from) c.index_mut.ensures.value ∙ its.0;
        to_here = passed.4 ∙ ap (λ (s : Receiving). s.to) c.index_mut.ensures.value ∙ its.1;
        oldest = rw (get_or-map_read (λ (s : Receiving). s.known) lanes d old [] within c.index_mut.ensures.value, get_or-map_set_same (λ (s : Receiving). s.known) lanes d c.pass.new.self [] within) (IsPrefix-is _ _ passed.1);
      },
    )

pub returns-clause-place : goal.returns-clause-place
returns-clause-place c =
    let lanes = c.self.inside.lanes.items in
    let rings = length-map lanes (λ (s : Receiving). s.ring) in
    let is_rings = ap (λ (o : InEnds). length o.place.rings) c.self.view_is in
    let within : c.from.result < length lanes = omega (arith, rings, is_rings, c.requires.0, c.from.ensures) in
    let same = map-set_same (λ (s : Receiving). s.ring) lanes _ _ _ within c.index_mut.ensures.value c.pass.ensures.same.0 in
    (λ i. record { number = c.self.inside.number; rings = same i }) ∙ ap (λ (o : InEnds). o.place) c.self.view_is

pub returns-clause-others : goal.returns-clause-others
returns-clause-others c k apart =
    get_or-map_set_other (λ (s : Receiving). s.known) c.self.inside.lanes.items c.from.result k c.pass.new.self [] (λ e. apart (e ∙ c.from.ensures))
    ∙ ap (λ (o : InEnds). get_or o.known k []) c.self.view_is
