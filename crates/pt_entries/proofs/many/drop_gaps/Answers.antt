-- `drop_gaps`: its clauses `entries` and `closed`.
use Rattle.std.proofs.Common.{ap, sym, ◌∙◌, is_some, length, rules}
use Rattle.indexmap.proofs.CallerLemmas.{filter-RetainsPairs}
use Rattle.pt_entries.specs.Gaps.{present}
use Rattle.pt_entries.proofs.GapLemmas.{present-closed, length-closed}
use Rattle.pt_entries.proofs.many.drop_gaps.Goals as goal

pub returns-clause-entries : goal.returns-clause-entries
returns-clause-entries g c =
    let kept = filter-RetainsPairs _ (λ e. is_some e.1) _ (λ k v b w f h. search rules) _ _ c.retain.ensures.filtered in
    ap present kept ∙ present-closed c.args.places.now.entries

pub returns-clause-closed : goal.returns-clause-closed
returns-clause-closed g c =
    let kept = filter-RetainsPairs _ (λ e. is_some e.1) _ (λ k v b w f h. search rules) _ _ c.retain.ensures.filtered in
    ap length kept ∙ length-closed c.args.places.now.entries ∙ sym (ap length (ap present kept ∙ present-closed c.args.places.now.entries))
