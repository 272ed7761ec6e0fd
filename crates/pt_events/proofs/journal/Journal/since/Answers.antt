-- `Journal::since`: its contract.
use Rattle.std.proofs.Common.{◌≡◌, ◌-◌, leb, length, drop, reverse, subst, sym, ap, ◌∙◌, arith, rules}
use Rattle.std.specs.List.Sorted.{IsNonDecreasingBy}
use Rattle.std.proofs.lemmas.List.{take_all, length-drop, reverse-reverse}
use Rattle.std.proofs.lemmas.List.Sorted.{IsPartitionPoint-from_clause, IsPartitionedBy-leb}
use Rattle.pt_events.specs.declared.event.Stamped.{Stamped}
use Rattle.pt_events.specs.Since.{newer_than}
use Rattle.pt_events.proofs.Since.{newer_from, stamps_rise}
use Rattle.pt_events.proofs.journal.Journal.since.Goals as goal

pub returns : goal.returns
returns c =
    let n = c.args.stamp in
    let xs = c.as_slice-events.result.now in
    let i = c.partition_point-seen.result in
    let items = c.self.inside.events.items in
    let whole : reverse (reverse items) ≡ xs = reverse-reverse items ∙ sym c.as_slice-events.ensures.value in
    let same : reverse c.args.self.now.past ≡ xs = sym (ap (λ j. reverse j.past) c.self.view_is) ∙ whole in
    let rise : IsNonDecreasingBy (λ (s : Stamped). s.stamp) xs = subst (IsNonDecreasingBy (λ (s : Stamped). s.stamp)) whole (stamps_rise c.self.inside.desk (reverse items) c.self.invariant) in
    let point = IsPartitionPoint-from_clause (λ (s : Stamped). leb s.stamp n) _ _ c.partition_point-seen.ensures.partitioned (IsPartitionedBy-leb (λ (s : Stamped). s.stamp) xs n rise) (λ a r q k. search rules) in
    take_all (length xs - i) (drop i xs) (omega (arith, length-drop i xs))
    ∙ newer_from n xs i (λ k o lt. point.0 k o (omega arith) lt) point.1 c.partition_point-seen.ensures.bound
    ∙ ap (newer_than n) (sym same)
