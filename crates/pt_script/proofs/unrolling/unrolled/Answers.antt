-- `unrolled`: its contract.
use Rattle.std.proofs.Common.{◌≡◌, ◌+◌, ◌<◌, [], ◌∷◌, ◌++◌, drop, length, ap, sym, ◌∙◌, arith}
use Rattle.std.proofs.lemmas.Result.{err_from_is_err_and}
use Rattle.pt_script.specs.Unrolling.{unrolled_list, unrolled_plans}
use Rattle.pt_script.proofs.UnrollingFacts.{behind, last_plan, next_plan, plan_of, refuses_plan}
use Rattle.pt_script.proofs.unrolling.unrolled.Goals as goal

pub returns-in_err-operations : goal.returns-in_err-operations
returns-in_err-operations c =
    let from = err_from_is_err_and c.from_residual.result c.from_residual.ensures.1 in
    let lt : c.loop-number.number < length c.args.processes.now = omega arith in
    rw (from.1, from.2) (refuses_plan _ _ c.args.processes.now _ c.index-processes-number.result _ _ lt c.index-processes-number.is (rw c.operations.ensures at c.in_err-operations.ensures.written) c.loop-number.invariant.1)

pub loop-number-preserved : goal.loop-number-preserved
loop-number-preserved c =
    let before = c.loop-number.invariant in
    let i = c.loop-number.number in
    let ps = c.args.processes.now in
    let p = c.index-processes-number.result in
    let os = c.in_ok-operations.operations.items in
    let done = c.loop-number.written.items in
    let left = c.write_list.new.left in
    let lt : i < length ps = omega arith in
    let wrote = ap (unrolled_list c.loop-number.left i) (sym c.operations.ensures) ∙ c.in_ok-operations.ensures.written in
    let is : c.new.result ≡ plan_of p.trap os = c.new.ensures ∙ ap (λ t. plan_of t os) c.traps.ensures in (
      omega (arith, c.in_ok-operations.ensures.left, before.0),
      ap (λ qs. behind qs (unrolled_plans left (i + 1) (drop (i + 1) ps))) (c.in_ok-push.ensures.items ∙ ap (λ q. done ++ q ∷ []) is)
          ∙ next_plan c.loop-number.left left i ps done p os _ lt c.index-processes-number.is wrote before.1,
    )

pub returns : goal.returns
returns c = last_plan _ _ c.args.processes.now c.loop-number.written.items _ (omega arith) c.loop-number.invariant.1
