-- `one_by_one`: its clause `turns`, and its loop over `d`.
use Rattle.std.proofs.Common.{◌<◌, length, refl, arith}
use Rattle.pt_workers.specs.Running.{WorkRelation, begins_by}
use Rattle.pt_workers.proofs.GoingOn.{all_stay, all_go_on_then, one_goes_on}
use Rattle.pt_workers.proofs.Rounding.{one_done, one_rest}
use Rattle.pt_workers.proofs.running.one_by_one.Goals as goal

pub loop-d-init : goal.loop-d-init
loop-d-init g c = record { each = all_stay c.args.desks.now.items; done = λ k x l h. absurd (omega arith); rest = λ k x l. refl }

pub loop-d-preserved : goal.loop-d-preserved
loop-d-preserved g c =
    let inv = c.loop-d.invariant in
    let old = c.args.desks.now.items in
    let mid = c.loop-d.desks.items in
    let d = c.loop-d.d in
    let p = c.index_mut.result.now in
    let p' = c.work_turns.new.pair in
    let within : d < length mid = omega (arith, c.loop-d-test.true, inv.each.count) in
    let lets = begins_by g.W.Task.standing (g.G.Gate.lets c.args.gate.now) in
    let does : WorkRelation g.row.W.Denot = (g.W.Task.does, g.W.Task.hears) in
    record {
      each = all_go_on_then _ _ _ inv.each (one_goes_on mid d p p' within c.index_mut.ensures.value c.work_turns.ensures.goes_on);
      done = one_done lets does c.args.budget c.args.turns d old mid p p' within c.index_mut.ensures.value inv.rest c.work_turns.ensures.turns inv.done;
      rest = one_rest lets does c.args.budget c.args.turns d old mid p p' within c.index_mut.ensures.value inv.rest c.work_turns.ensures.turns;
    }

pub returns-clause-turns : goal.returns-clause-turns
returns-clause-turns g c d x l = c.loop-d.invariant.done d x l (omega (arith, l, c.loop-d-test.false, c.loop-d.invariant.each.count))
