-- `Many::set`: its contract, and the invariant of `self`, and what its call of `unwrap` asks, and its checked operations.
use Rattle.std.proofs.Common.{sym, ap, ◌∙◌, arith, is_some, length, Some}
use Rattle.std.specs.Map.{lookup, set_value}
use Rattle.std.proofs.lemmas.Map.{length-set_value}
use Rattle.pt_entries.specs.Gaps.{present}
use Rattle.pt_entries.proofs.GapLemmas.{lookup-present, flattened_some, ok_from_some, insert_entry-set, present-written}
use Rattle.pt_entries.proofs.many.Many.set.Goals as goal

pub unwrap-requires : goal.unwrap-requires
unwrap-requires g c =
    let eq = g.K.PartialEq.eq in
    let key = c.args.key in
    let places = c.self.inside.places.entries in
    let there = sym (ap is_some (lookup-present g.met.K.Eq.laws key places c.self.invariant.distinct)) ∙ ap (λ m. is_some (lookup (eq key) m.entries)) c.self.view_is ∙ c.requires in
    ok_from_some _ (lookup (eq key) places) c.insert-written.ensures.absent (flattened_some _ there)

pub invariant_of-self : goal.invariant_of-self
invariant_of-self g c =
    let eq = g.K.PartialEq.eq in
    let key = c.args.key in
    let places = c.self.inside.places.entries in
    let there = sym (ap is_some (lookup-present g.met.K.Eq.laws key places c.self.invariant.distinct)) ∙ ap (λ m. is_some (lookup (eq key) m.entries)) c.self.view_is ∙ c.requires in
    let entries = rw c.unwrap.ensures at c.insert-written.ensures.entries ∙ insert_entry-set eq places key (Some c.args.value) (flattened_some _ there) in
    record {
      distinct = c.insert-written.ensures.unique;
      counted = c.self.invariant.counted ∙ sym (ap (λ es. length (present es)) entries ∙ ap length (present-written (eq key) places c.args.value there) ∙ length-set_value (eq key) (present places) c.args.value);
      bounded = omega (arith, c.self.invariant.bounded, ap length entries, length-set_value (eq key) places (Some c.args.value));
      limited = c.self.invariant.limited;
    }

pub returns : goal.returns
returns g c =
    let eq = g.K.PartialEq.eq in
    let key = c.args.key in
    let places = c.self.inside.places.entries in
    let there = sym (ap is_some (lookup-present g.met.K.Eq.laws key places c.self.invariant.distinct)) ∙ ap (λ m. is_some (lookup (eq key) m.entries)) c.self.view_is ∙ c.requires in
    ap present (rw c.unwrap.ensures at c.insert-written.ensures.entries ∙ insert_entry-set eq places key (Some c.args.value) (flattened_some _ there))
    ∙ present-written (eq key) places c.args.value there
    ∙ ap (λ m. set_value (eq key) m.entries c.args.value) c.self.view_is
