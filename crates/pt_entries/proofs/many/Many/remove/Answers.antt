-- `Many::remove`: its clauses `distinct`, `counted`, `value` and `rest`, and the invariant of `self`, and what its call of `settle` asks.
use Rattle.std.proofs.Common.{◌≡◌, ◌+◌, None, sym, ap, ◌∙◌, arith, length, is_some, if◌then◌else◌}
use Rattle.std.specs.Map.{lookup, remove_entry}
use Rattle.std.proofs.lemmas.Map.{keys-set_value, length-set_value}
use Rattle.pt_entries.specs.Gaps.{present}
use Rattle.pt_entries.proofs.MapLemmas.{length-remove_entry, remove_entry-absent}
use Rattle.pt_entries.proofs.GapLemmas.{lookup-present, present-gone}
use Rattle.pt_entries.proofs.many.Many.remove.Goals as goal

pub settle-requires-clause-distinct : goal.settle-requires-clause-distinct
settle-requires-clause-distinct g c =
    let eq = g.K.PartialEq.eq in
    let places = c.self.inside.places.entries in
    rw (c.take_value.ensures.entries, keys-set_value (eq c.args.key.now) places None) c.self.invariant.distinct

pub settle-requires-clause-counted : goal.settle-requires-clause-counted
settle-requires-clause-counted g c =
    let eq = g.K.PartialEq.eq in
    let key = c.args.key.now in
    let places = c.self.inside.places.entries in
    let gone = ap present c.take_value.ensures.entries ∙ present-gone g.met.K.Eq.laws key places c.self.invariant.distinct in
    let there = sym (ap is_some (c.in-Some.ensures.value ∙ sym (lookup-present g.met.K.Eq.laws key places c.self.invariant.distinct))) in
    let shorter : length (remove_entry (eq key) (present places)) + 1 ≡ length (present places) =
    ap (λ b. length (remove_entry (eq key) (present places)) + (if b then 1 else 0)) (sym there) ∙ length-remove_entry (eq key) (present places) in
    omega (arith, ap length gone, shorter, c.self.invariant.counted)

pub returns-in-Some-clause-value : goal.returns-in-Some-clause-value
returns-in-Some-clause-value g c =
    c.in-Some.ensures.value
    ∙ sym (lookup-present g.met.K.Eq.laws c.args.key.now c.self.inside.places.entries c.self.invariant.distinct)
    ∙ ap (λ m. lookup (g.K.PartialEq.eq c.args.key.now) m.entries) c.self.view_is

pub returns-in-Some-clause-rest : goal.returns-in-Some-clause-rest
returns-in-Some-clause-rest g c =
    c.settle.ensures.entries
    ∙ ap present c.take_value.ensures.entries
    ∙ present-gone g.met.K.Eq.laws c.args.key.now c.self.inside.places.entries c.self.invariant.distinct
    ∙ ap (λ m. remove_entry (g.K.PartialEq.eq c.args.key.now) m.entries) c.self.view_is

pub invariant_of-self-in-None : goal.invariant_of-self-in-None
invariant_of-self-in-None g c =
    let eq = g.K.PartialEq.eq in
    let key = c.args.key.now in
    let places = c.self.inside.places.entries in
    let none = lookup-present g.met.K.Eq.laws key places c.self.invariant.distinct ∙ sym c.in-None.ensures.value in
    let same = ap present c.take_value.ensures.entries ∙ present-gone g.met.K.Eq.laws key places c.self.invariant.distinct ∙ remove_entry-absent (eq key) (present places) none in
    record {
      distinct = rw (c.take_value.ensures.entries, keys-set_value (eq key) places None) c.self.invariant.distinct;
      counted = c.self.invariant.counted ∙ sym (ap length same);
      bounded = omega (arith, c.self.invariant.bounded, ap length c.take_value.ensures.entries, length-set_value (eq key) places None);
      limited = c.self.invariant.limited;
    }

pub returns-in-None-clause-value : goal.returns-in-None-clause-value
returns-in-None-clause-value g c =
    c.in-None.ensures.value
    ∙ sym (lookup-present g.met.K.Eq.laws c.args.key.now c.self.inside.places.entries c.self.invariant.distinct)
    ∙ ap (λ m. lookup (g.K.PartialEq.eq c.args.key.now) m.entries) c.self.view_is

pub returns-in-None-clause-rest : goal.returns-in-None-clause-rest
returns-in-None-clause-rest g c =
    ap present c.take_value.ensures.entries
    ∙ present-gone g.met.K.Eq.laws c.args.key.now c.self.inside.places.entries c.self.invariant.distinct
    ∙ ap (λ m. remove_entry (g.K.PartialEq.eq c.args.key.now) m.entries) c.self.view_is
