-- `turn_at`: its clauses `each` and `turn`.
use Rattle.std.proofs.Common.{arith}
use Rattle.pt_workers.specs.Running.{begins_by}
use Rattle.pt_workers.proofs.GoingOn.{all_stay, one_goes_on}
use Rattle.pt_workers.proofs.Rounding.{ended_stays, has_turn}
use Rattle.pt_workers.proofs.running.turn_at.Goals as goal

pub returns-clause-each : goal.returns-clause-each
returns-clause-each g c = one_goes_on c.args.desks.now.items c.args.d _ c.one_turn.new.pair (omega (arith, c.requires.desk)) c.index_mut.ensures.value c.one_turn.ensures.goes_on

pub returns-clause-turn : goal.returns-clause-turn
returns-clause-turn g c =
    has_turn (begins_by g.W.Task.standing (g.G.Gate.lets c.args.gate.now)) (g.W.Task.does, g.W.Task.hears) c.args.budget c.args.turn c.args.d c.args.desks.now.items c.args.ended.now c.index_mut.result.now c.one_turn.new.pair c.one_turn.result
    (omega (arith, c.requires.desk)) c.index_mut.ensures.value c.if-ended-d.false c.one_turn.ensures.lets c.one_turn.ensures.takes

pub returns-then-ended-d-clause-each : goal.returns-then-ended-d-clause-each
returns-then-ended-d-clause-each g c = all_stay c.args.desks.now.items

pub returns-then-ended-d-clause-turn : goal.returns-then-ended-d-clause-turn
returns-then-ended-d-clause-turn g c = ended_stays (begins_by g.W.Task.standing (g.G.Gate.lets c.args.gate.now)) (g.W.Task.does, g.W.Task.hears) c.args.budget c.args.turn c.args.d (c.args.desks.now.items, c.args.ended.now) c.if-ended-d.true
