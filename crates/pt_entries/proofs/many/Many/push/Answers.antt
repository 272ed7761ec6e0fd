-- `Many::push`: its clauses `gone` and `entries`, and the invariant of `self`, and what its call of `clear_gap` asks.
use Rattle.std.proofs.Common.{◌∷◌, [], ◌++◌, sym, ap, ◌∙◌, arith, length, length-append, Some}
use Rattle.std.specs.Map.{lookup}
use Rattle.indexmap.proofs.CallerLemmas.{insert_entry-new}
use Rattle.pt_entries.specs.Gaps.{present}
use Rattle.pt_entries.proofs.GapLemmas.{lookup-present, present-push}
use Rattle.pt_entries.proofs.many.Many.push.Goals as goal

pub clear_gap-requires-clause-gone : goal.clear_gap-requires-clause-gone
clear_gap-requires-clause-gone g c =
    sym (lookup-present g.met.K.Eq.laws c.args.key c.self.inside.places.entries c.self.invariant.distinct)
    ∙ ap (λ m. lookup (g.K.PartialEq.eq c.args.key) m.entries) c.self.view_is
    ∙ c.requires.absent

pub invariant_of-self : goal.invariant_of-self
invariant_of-self g c =
    let places = c.clear_gap.new.places.entries in
    let entries = rw c.unwrap.ensures at c.insert-added.ensures.entries ∙ insert_entry-new g.K.PartialEq.eq c.clear_gap.new.places c.args.key (Some c.args.value) c.clear_gap.ensures.absent in
    let seen = ap present entries ∙ present-push places c.args.key c.args.value in
    record {
      distinct = c.insert-added.ensures.unique;
      counted = omega (arith, ap length seen, length-append (present places) ((c.args.key, c.args.value) ∷ []), ap length c.clear_gap.ensures.entries, c.self.invariant.counted);
      bounded = omega (arith, ap length entries, length-append places ((c.args.key, Some c.args.value) ∷ []), c.clear_gap.ensures.length, c.self.invariant.bounded);
      limited = omega (arith, c.requires.room, ap (λ m. m.room) c.self.view_is);
    }

pub returns-clause-entries : goal.returns-clause-entries
returns-clause-entries g c =
    let places = c.clear_gap.new.places.entries in
    let entries = rw c.unwrap.ensures at c.insert-added.ensures.entries ∙ insert_entry-new g.K.PartialEq.eq c.clear_gap.new.places c.args.key (Some c.args.value) c.clear_gap.ensures.absent in
    ap present entries
    ∙ present-push places c.args.key c.args.value
    ∙ ap (λ es. es ++ (c.args.key, c.args.value) ∷ []) (c.clear_gap.ensures.entries ∙ ap (λ m. m.entries) c.self.view_is)
