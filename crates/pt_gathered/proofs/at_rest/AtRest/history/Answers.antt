-- `AtRest::history`: its clauses `merge` and `legal`.
use Rattle.std.proofs.Common.{◌≡◌, reverse, sym, subst}
use Rattle.pt_events.specs.Journal.{IsMerge}
use Rattle.pt_gathered.specs.Gathered.{GatheredState, journals}
use Rattle.pt_gathered.specs.History.{AreJournalsOf}
use Rattle.pt_gathered.proofs.Histories.{merge_of_desks}
use Rattle.pt_gathered.proofs.at_rest.AtRest.history.Goals as goal

pub returns-clause-merge : goal.returns-clause-merge
returns-clause-merge c =
    let shards = c.self.inside.shards.items in
    let v : record { config = c.self.inside.config; shards = shards; lanes = c.self.inside.lanes.items } ≡ c.args.self.now = c.self.view_is in
    let js = c.in_ok-journals.journals.items in
    let are : AreJournalsOf c.as_slice-2.result.now shards
    = subst (λ z. AreJournalsOf z shards) (sym c.as_slice-2.ensures.value) (subst (AreJournalsOf js) c.as_slice.ensures.value c.in_ok-journals.ensures) in
    let merged = reverse c.in_ok-history.history.items in
    subst (λ (g : GatheredState). IsMerge (journals g) merged) v
    (merge_of_desks c.as_slice-2.result.now shards merged are (λ k x h. (c.self.invariant.shards k x h).number) c.in_ok-history.ensures)

pub returns-clause-legal : goal.returns-clause-legal
returns-clause-legal c = c.laws_of_node.ensures.legal (reverse c.in_ok-history.history.items) (returns-clause-merge c)
