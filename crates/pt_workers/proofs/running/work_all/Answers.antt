-- `work_all`: its clauses `each` and `turns`.
use Rattle.std.proofs.Common.{rules, subst, get_or}
use Rattle.pt_desk.specs.DeskState.{GoesOn}
use Rattle.pt_workers.specs.Running.{Works, begins_by}
use Rattle.pt_workers.proofs.running.work_all.Goals as goal

pub returns-then-workers-gt0-clause-each : goal.returns-then-workers-gt0-clause-each
returns-then-workers-gt0-clause-each g c =
    record {
      count = c.for_each_mut.auto.s;
      each = λ d x l.
          let at = (c.for_each_mut.ensures d x l).1 in
          let called : GoesOn at.argument.now.0 at.after_call.now.0 = search rules in
          subst (λ y. GoesOn (get_or c.args.desks.now d x).0 y.0) at.left (subst (λ y. GoesOn y.0 at.after_call.now.0) at.argument_is called);
    }

pub returns-then-workers-gt0-clause-turns : goal.returns-then-workers-gt0-clause-turns
returns-then-workers-gt0-clause-turns g c = λ d x l.
    let at = (c.for_each_mut.ensures d x l).1 in
    let called : Works (begins_by g.W.Task.standing (g.G.Gate.lets c.args.gate.now) at.argument.now.0.shard.number) (g.W.Task.does, g.W.Task.hears) c.args.turns c.args.budget at.argument.now at.after_call.now = search rules in
    subst (λ y. Works (begins_by g.W.Task.standing (g.G.Gate.lets c.args.gate.now) (get_or c.args.desks.now d x).0.shard.number) (g.W.Task.does, g.W.Task.hears) c.args.turns c.args.budget (get_or c.args.desks.now d x) y) at.left
    (subst (λ y. Works (begins_by g.W.Task.standing (g.G.Gate.lets c.args.gate.now) y.0.shard.number) (g.W.Task.does, g.W.Task.hears) c.args.turns c.args.budget y at.after_call.now) at.argument_is called)
