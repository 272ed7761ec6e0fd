-- `one_round`: its clauses `desk` and `few`, and its loop over `d`, and what its call of `turn_at` asks.
use Rattle.std.proofs.Common.{refl, sym, ◌∙◌, arith}
use Rattle.std.proofs.lemmas.Bool.{both_ways}
use Rattle.pt_workers.specs.Running.{WorkRelation, Workers, begins_by}
use Rattle.pt_workers.proofs.GoingOn.{all_stay, all_go_on_then}
use Rattle.pt_workers.proofs.Rounding.{none_more, turn_more}
use Rattle.pt_workers.proofs.running.one_round.Goals as goal
use Rattle.pt_workers.proofs.running.one_round.Goals.{then-not-ended-d, else-not-ended-d}

pub loop-d-init : goal.loop-d-init
loop-d-init g c = record { each = all_stay c.args.desks.now.items; round = refl; none = λ h d l. absurd (omega arith) }

pub turn_at-requires-clause-desk : goal.turn_at-requires-clause-desk
turn_at-requires-clause-desk g c = omega (arith, c.loop-d-test.true, c.loop-d.invariant.each.count)

pub turn_at-requires-clause-few : goal.turn_at-requires-clause-few
turn_at-requires-clause-few g c = omega (arith, c.requires, c.loop-d.invariant.each.count)

pub loop-d-preserved : goal.loop-d-preserved
loop-d-preserved g c =
    let inv = c.loop-d.invariant in
    let lets = begins_by g.W.Task.standing (g.G.Gate.lets c.args.gate.now) in
    let does : WorkRelation g.row.W.Denot = (g.W.Task.does, g.W.Task.hears) in
    let start : Workers g.row.W.Denot = (c.args.desks.now.items, c.args.ended.now) in
    let old : Workers g.row.W.Denot = (c.loop-d.desks.items, c.loop-d.ended) in
    let new : Workers g.row.W.Denot = (c.turn_at.new.desks.items, c.turn_at.new.ended) in
    record {
      each = all_go_on_then _ _ _ inv.each c.turn_at.ensures.each;
      round = turn_more lets does c.args.budget c.args.turn c.loop-d.d start old new inv.round c.turn_at.ensures.turn;
      none = elim c.if-not-ended-d.branch [
        | then-not-ended-d w ↦ λ off. absurd (both_ways c.if-not-ended-d.goes_on off w.goes_on-is)
        | else-not-ended-d w ↦ λ off. none_more lets does c.args.budget c.args.turn c.loop-d.d old new c.turn_at.ensures.turn (inv.none (sym w.goes_on-is ∙ off)) w.if-not-ended-d.false
      ];
    }
