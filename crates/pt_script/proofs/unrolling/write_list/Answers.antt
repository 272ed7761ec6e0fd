-- `write_list`: its contract.
use Rattle.std.proofs.Common.{◌≤◌, length, ap, sym, ◌∙◌, subst, arith}
use Rattle.pt_script.specs.declared.fault.Fault.TheVariants.{Field}
use Rattle.pt_script.specs.Lists.{ScriptRefuses}
use Rattle.pt_script.specs.Unrolling.{reached_view, refused}
use Rattle.pt_script.proofs.UnrollingFacts.{ended, ended_open, innermost_of, next_from, no_innermost}
use Rattle.pt_script.proofs.unrolling.write_list.Goals as goal

pub loop-reached-preserved : goal.loop-reached-preserved
loop-reached-preserved c =
    let before = c.loop-reached.invariant in (
      next_from c.loop-reached.left c.step.new.left c.args.process c.args.list.now (reached_view c.loop-reached.reached) (reached_view c.step.new.self) c.in_ok-step.ensures.step ∙ before.0,
      omega (arith, c.in_ok-step.ensures.made, before.1),
    )

pub returns-in-Some-clause-written : goal.returns-in-Some-clause-written
returns-in-Some-clause-written c =
    let r = c.loop-reached.reached in
    let b = c.in-Some.block.now in
    let past_all : length c.args.list.now ≤ r.place = omega (arith, c.loop-reached-test.false) in
    let found = innermost_of _ c.deref.result.now b c.deref.ensures.value c.in-Some.ensures.value in
    subst (ScriptRefuses c.refused.result) c.loop-reached.invariant.0
    (ended_open c.loop-reached.left c.args.process c.args.list.now (reached_view r) b found.0 c.refused.result past_all found.1 (c.refused.ensures ∙ ap (refused Field c.args.process) c.at.ensures))

pub returns-in-None-clause-written : goal.returns-in-None-clause-written
returns-in-None-clause-written c =
    let r = c.loop-reached.reached in
    let past_all : length c.args.list.now ≤ r.place = omega (arith, c.loop-reached-test.false) in
    sym c.loop-reached.invariant.0
    ∙ ended c.loop-reached.left c.args.process c.args.list.now (reached_view r) past_all (no_innermost _ c.deref.result.now c.deref.ensures.value c.in-None.ensures.value)
