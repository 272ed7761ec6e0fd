-- `Reasons::get`: the reason of a place.
use Rattle.std.proofs.Common.{◌≡◌, Option, leb, length, slice_get, Some, None, refl, ap, sym, subst, ◌∙◌, rules}
use Rattle.std.specs.Option.{option_map}
use Rattle.std.proofs.lemmas.List.Sorted.{IsPartitionPoint-from_clause}
use Rattle.std.proofs.lemmas.Option.{slice_get_read}
use Rattle.pt_accounts.specs.declared.reasons.Run.{Run}
use Rattle.pt_accounts.specs.Runs.{AreRuns, expanded, ReasonsState}
use Rattle.pt_accounts.proofs.Ends.{at_place, parted, is_within, is_past, past_all}
use Rattle.pt_accounts.proofs.reasons.Reasons.get.Goals as goal
use Rattle.pt_accounts.proofs.reasons.Reasons.get.Goals.{After-partition_point-at}

-- the run at that point, or none, is that of the place
run_at : (c : After-partition_point-at) → (run : Option Run) → run ≡ slice_get c.as_slice-runs.result.now c.partition_point-at.result → option_map (λ (r : Run). r.reason) run ≡ slice_get c.args.self.now.listed c.args.place
run_at c run here =
    let runs = c.as_slice-runs.result.now in
    let n = c.args.place in
    let same : c.self.inside.runs.items ≡ runs = sym c.as_slice-runs.ensures.value in
    let are = subst (AreRuns 0 None) same c.self.invariant in
    let point = IsPartitionPoint-from_clause (λ (r : Run). leb r.up_to n) _ _ c.partition_point-at.ensures.partitioned (parted 0 n None runs are) (λ a r q k. search rules) in
    ap (option_map (λ (r : Run). r.reason)) here
    ∙ sym (at_place n c.partition_point-at.result runs are point.0 point.1)
    ∙ ap (λ x. slice_get (expanded 0 x) n) (sym same)
    ∙ ap (λ (s : ReasonsState). slice_get s.listed n) c.self.view_is

pub returns-in-Some : goal.returns-in-Some
returns-in-Some c =
    let runs = c.as_slice-runs.result.now in
    let i = c.partition_point-at.result in
    let lookup = c.in-Some.ensures.lookup in
    run_at (goal.at.returns-in-Some c).After-partition_point-at (Some c.in-Some.run'.now) (sym (slice_get_read runs (length runs) i c.in-Some.run'.now refl (is_within i (length runs) lookup.0) lookup.1))

pub returns-in-None : goal.returns-in-None
returns-in-None c =
    let runs = c.as_slice-runs.result.now in
    let i = c.partition_point-at.result in
    run_at (goal.at.returns-in-None c).After-partition_point-at None (past_all i runs (is_past i (length runs) c.in-None.ensures.lookup.0))
