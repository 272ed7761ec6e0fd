-- `+lists`: its clause `read`, and what its call of `read_process` asks.
use Rattle.std.proofs.Common.{◌≡◌, ◌+◌, ◌<◌, ◌++◌, ◌∙◌, sym, ap, arith, Ok, rules, length, length-append, append_assoc, refl, [], ◌∷◌, set, map, vec_len}
use Rattle.std.proofs.lemmas.Grind.{common_steps}
use Rattle.pt_script.specs.Lists.{fresh_scope, list_from}
use Rattle.pt_script.specs.Operations.{Spawning, spawn}
use Rattle.pt_script.proofs.StepFacts.{spawned_read}
use Rattle.std.proofs.Math.Seq.{set-append_seam}
use Rattle.std.proofs.lemmas.List.{get_or-map, length-map}
use Rattle.std.proofs.lemmas.Result.{err_from_is_err_and}
use Rattle.serde_json.specs.View.{view}
use Rattle.pt_script.specs.Scopes.{Scope, scope_view, naming}
use Rattle.pt_script.proofs.ListFacts.{behind_next, refuses_behind, behind_end, refuses_from, simple_reads, step_at-limits, step_at-simple, step_at-spawn_below}
use Rattle.pt_script.proofs.lists.+lists.Goals as goal

pub read_list-returns-in_err-operation-clause-read : goal.read_list-returns-in_err-operation-clause-read
read_list-returns-in_err-operation-clause-read t c =
    let p = err_from_is_err_and c.from_residual.result c.from_residual.ensures.1 in
    let v = c.index-list-index.result in
    let lt : c.loop-index.index < length c.args.list.now = omega arith in
    rw (p.1, p.2) (refuses_behind _ _ _ _ _ (map view c.args.list.now) (view v) _ _ _ _ (rw (length-map c.args.list.now view) lt) (get_or-map view c.args.list.now c.loop-index.index v (view v) lt ∙ ap view (sym c.index-list-index.is)) c.in_err-operation.ensures.read c.loop-index.invariant.read.2)

pub read_list-returns-clause-read : goal.read_list-returns-clause-read
read_list-returns-clause-read t c =
    let inv = c.loop-index.invariant.read in
    (inv.0, behind_end _ _ _ _ _ (map view c.args.list.now) _ _ _ (rw (length-map c.args.list.now view) (omega arith)) inv.2, inv.1)

pub read_list-loop-index-preserved : goal.read_list-loop-index-preserved
read_list-loop-index-preserved t c =
    let inv = c.loop-index.invariant.read in
    let step = c.in_ok-operation.ensures.read in
    let v = c.index-list-index.result in
    let lt : c.loop-index.index < length c.args.list.now = omega arith in
    let pushed : c.push.new.self.items ≡ c.loop-index.operations.items ++ c.in_ok-operation.operation ∷ [] = c.in_ok-push.ensures.items in
    let counted : vec_len c.read_operation.new.draft.processes ≡ vec_len c.loop-index.draft.processes + length step.0 = omega (arith, length-append c.loop-index.draft.processes.items step.0, ap length step.2) in
    record {
      index = omega (arith, c.in_ok-operation.ensures.seen, c.loop-index.invariant.index);
      made = c.in_ok-operation.ensures.made;
      grown = omega (arith, c.in_ok-operation.ensures.seen, c.loop-index.invariant.grown);
      read = (
        inv.0 ++ step.0,
        step.2 ∙ ap (λ ps. ps ++ step.0) inv.1 ∙ append_assoc c.args.draft.now.processes.items inv.0 step.0,
        rw (pushed, counted) (behind_next _ _ _ _ _ (map view c.args.list.now) (view v) _ _ (record { operation = c.in_ok-operation.operation; inside = step.0; seen = c.read_operation.new.draft.seen; scope = scope_view c.read_operation.new.scope }) _ (rw (length-map c.args.list.now view) lt) (get_or-map view c.args.list.now c.loop-index.index v (view v) lt ∙ ap view (sym c.index-list-index.is)) step.1 inv.2),
      );
    }

pub read_operation-returns-in_err-limits-clause-read : goal.read_operation-returns-in_err-limits-clause-read
read_operation-returns-in_err-limits-clause-read t c =
    let p = err_from_is_err_and c.from_residual.result c.from_residual.ensures.1 in
    let h = rw (c.is_spawn-spawns.ensures, c.at_operation-place.ensures, c.len-next.ensures) at (sym c.limits.ensures ∙ c.in_err-limits.was) in
    rw (p.1, p.2) (refuses_from _ _ (step_at-limits _ _ _ _ _ _ _ h))

pub read_operation-returns-then-spawns-clause-read : goal.read_operation-returns-then-spawns-clause-read
read_operation-returns-then-spawns-clause-read t c =
    let h = rw (c.is_spawn-spawns.ensures, c.at_operation-place.ensures, c.len-next.ensures) at (sym c.limits.ensures ∙ c.in_ok-limits.was) in
    let read = rw c.at_operation-place.ensures at c.read_spawn.ensures.read in
    rw (step_at-spawn_below _ _ _ _ _ _ h (sym c.is_spawn-spawns.ensures ∙ c.if-spawns.true)) read

pub read_operation-returns-else-spawns-clause-read : goal.read_operation-returns-else-spawns-clause-read
read_operation-returns-else-spawns-clause-read t c =
    let h = rw (c.is_spawn-spawns.ensures, c.at_operation-place.ensures, c.len-next.ensures) at (sym c.limits.ensures ∙ c.in_ok-limits.was) in
    let read = rw c.at_operation-place.ensures at c.read_simple.ensures.read in
    rw (step_at-simple _ _ _ _ _ _ h (sym c.is_spawn-spawns.ensures ∙ c.if-spawns.false)) (simple_reads _ _ _ _ _ _ read)

pub read_process-index_mut-requires : goal.read_process-index_mut-requires
read_process-index_mut-requires t c =
    let part = c.in_ok-operations.ensures.read in
    omega (arith, length-append c.push.new.self.items part.0, ap length part.2, c.in_ok-push.ensures.len, c.len-number.ensures)

pub read_process-returns-clause-read : goal.read_process-returns-clause-read
read_process-returns-clause-read t c =
    let got = c.in_ok-operations.ensures.read in
    let old = c.args.draft.now.processes.items in
    let plan = c.new-6.result in
    let pushed = c.in_ok-push.ensures.items in
    let size = vec_len c.args.draft.now.processes in
    let longer : vec_len c.push.new.self ≡ size + 1 = omega (arith, c.in_ok-push.ensures.len) in
    let number : c.len-number.result ≡ length old = omega (arith, c.len-number.ensures, c.args.draft.now.processes.ok.0) in
    let scope : Scope = record { format = c.args.format; own = c.len-number.result; parent = c.args.parent; tops = naming c.args.tops.now; children = naming c.new-3.result; monitors = naming c.new-4.result; asks = naming c.new-5.result; made = 0 } in
    let begun : scope ≡ fresh_scope c.args.format size c.args.parent (naming c.args.tops.now) = λ i. record { format = c.args.format; own = c.len-number.ensures i; parent = c.args.parent; tops = naming c.args.tops.now; children = c.new-3.ensures i; monitors = c.new-4.ensures i; asks = c.new-5.ensures i; made = 0 } in
    let read = rw (begun, longer) at got.1 in (
      record { operations = c.in_ok-operations.operations.items; inside = got.0; seen = c.read_list.new.draft.seen },
      read,
      refl,
      ap (λ xs. set xs c.len-number.result plan) (got.2 ∙ ap (λ ys. ys ++ got.0) pushed ∙ append_assoc old (c.new-2.result ∷ []) got.0)
          ∙ ap (λ n. set (old ++ c.new-2.result ∷ got.0) n plan) number
          ∙ set-append_seam old c.new-2.result got.0 plan
          ∙ ap (λ p. old ++ p ∷ got.0) c.new-6.ensures,
    )

pub read_spawn-returns-clause-read : goal.read_spawn-returns-clause-read
read_spawn-returns-clause-read t c =
    let s = scope_view c.args.scope.now in
    let d = view c.args.value.now in
    let child = c.in_ok-child.child in
    let got = c.in_ok-read_process.ensures.read in
    let spawning : Spawning = record { name = child.name.now; linked = child.linked; trap = child.trap; ops = map view child.list.now.items } in
    let said : spawn s d ≡ Ok spawning = first_of (search rules, grind (arith, common_steps)) in
    let read = rw c.deref.ensures.value at got.1 in
    let added = rw c.len-next.ensures at c.in_ok-add.ensures in
    rw c.len-next.ensures (record { trap = child.trap; operations = got.0.operations } ∷ got.0.inside, spawned_read (λ t' n k es. list_from c.args.levels 0 t' n k es) c.args.place s (vec_len c.args.draft.now.processes) c.args.draft.now.seen d spawning got.0 c.read_process.new.draft.seen (naming c.add.new.self) said read got.2 added, got.3)
