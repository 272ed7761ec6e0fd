-- `all_rounds`: its clauses `each`, `turns` and `rounds`, and its loop over `turn`.
use Rattle.std.proofs.Common.{◌≡◌, ◌+◌, false, length, replicate, refl, subst, arith}
use Rattle.pt_workers.specs.Running.{HaveEnded, Rounds, Workers, begins_by}
use Rattle.pt_workers.proofs.GoingOn.{all_stay, all_go_on_then}
use Rattle.pt_workers.proofs.Rounding.{AllSoFar, none_so_far, one_round_more, rounds_ended, all_done, all_ended}
use Rattle.pt_workers.proofs.running.all_rounds.Goals as goal

pub loop-turn-init : goal.loop-turn-init
loop-turn-init g c = record { each = all_stay c.args.desks.now.items; rounds = refl; long = refl; within = omega arith; so_far = none_so_far (begins_by g.W.Task.standing (g.G.Gate.lets c.args.gate.now)) (g.W.Task.does, g.W.Task.hears) c.args.budget c.args.desks.now.items }

pub loop-turn-preserved : goal.loop-turn-preserved
loop-turn-preserved g c =
    let inv = c.loop-turn.invariant in
    let new : Workers g.row.W.Denot = (c.one_round.new.desks.items, c.one_round.new.ended) in
    let more = one_round_more (begins_by g.W.Task.standing (g.G.Gate.lets c.args.gate.now)) (g.W.Task.does, g.W.Task.hears) c.args.budget c.loop-turn.turn c.args.desks.now.items (c.loop-turn.desks.items, c.loop-turn.ended) new inv.each inv.long c.requires inv.rounds inv.so_far c.one_round.ensures.round in
    record {
      each = all_go_on_then _ _ _ inv.each c.one_round.ensures.each;
      rounds = more.0;
      long = more.1;
      within = omega (arith, c.loop-turn-test.true);
      so_far = more.2;
    }

pub returns-then-not-one_round-clause-each : goal.returns-then-not-one_round-clause-each
returns-then-not-one_round-clause-each g c = all_go_on_then _ _ _ c.loop-turn.invariant.each c.one_round.ensures.each

pub returns-then-not-one_round-clause-turns : goal.returns-then-not-one_round-clause-turns
returns-then-not-one_round-clause-turns g c =
    let inv = c.loop-turn.invariant in
    let new : Workers g.row.W.Denot = (c.one_round.new.desks.items, c.one_round.new.ended) in
    let more = one_round_more (begins_by g.W.Task.standing (g.G.Gate.lets c.args.gate.now)) (g.W.Task.does, g.W.Task.hears) c.args.budget c.loop-turn.turn c.args.desks.now.items (c.loop-turn.desks.items, c.loop-turn.ended) new inv.each inv.long c.requires inv.rounds inv.so_far c.one_round.ensures.round in
    let none = subst (λ n. HaveEnded n c.one_round.new.ended) inv.each.count (c.one_round.ensures.none c.if-not-one_round.true) in
    all_ended (begins_by g.W.Task.standing (g.G.Gate.lets c.args.gate.now)) (g.W.Task.does, g.W.Task.hears) c.args.budget (c.loop-turn.turn + 1) c.args.turns c.args.desks.now.items new (omega (arith, c.loop-turn-test.true)) none more.2

pub returns-then-not-one_round-clause-rounds : goal.returns-then-not-one_round-clause-rounds
returns-then-not-one_round-clause-rounds g c =
    let inv = c.loop-turn.invariant in
    let new : Workers g.row.W.Denot = (c.one_round.new.desks.items, c.one_round.new.ended) in
    let more = one_round_more (begins_by g.W.Task.standing (g.G.Gate.lets c.args.gate.now)) (g.W.Task.does, g.W.Task.hears) c.args.budget c.loop-turn.turn c.args.desks.now.items (c.loop-turn.desks.items, c.loop-turn.ended) new inv.each inv.long c.requires inv.rounds inv.so_far c.one_round.ensures.round in
    let none = subst (λ n. HaveEnded n c.one_round.new.ended) inv.each.count (c.one_round.ensures.none c.if-not-one_round.true) in (
      c.one_round.new.ended,
      rounds_ended (begins_by g.W.Task.standing (g.G.Gate.lets c.args.gate.now)) (g.W.Task.does, g.W.Task.hears) c.args.budget (length c.args.desks.now.items) (c.loop-turn.turn + 1) c.args.turns (c.args.desks.now.items, replicate 64 false) new (omega (arith, c.loop-turn-test.true)) more.0 none,
    )

pub returns-clause-turns : goal.returns-clause-turns
returns-clause-turns g c =
    let inv = c.loop-turn.invariant in
    let all : c.loop-turn.turn ≡ c.args.turns = omega (arith, inv.within, c.loop-turn-test.false) in
    all_done (begins_by g.W.Task.standing (g.G.Gate.lets c.args.gate.now)) (g.W.Task.does, g.W.Task.hears) c.args.budget c.args.turns c.args.desks.now.items (c.loop-turn.desks.items, c.loop-turn.ended)
    (subst (λ n. AllSoFar (begins_by g.W.Task.standing (g.G.Gate.lets c.args.gate.now)) (g.W.Task.does, g.W.Task.hears) c.args.budget n c.args.desks.now.items (c.loop-turn.desks.items, c.loop-turn.ended)) all inv.so_far)

pub returns-clause-rounds : goal.returns-clause-rounds
returns-clause-rounds g c =
    let inv = c.loop-turn.invariant in
    let all : c.loop-turn.turn ≡ c.args.turns = omega (arith, inv.within, c.loop-turn-test.false) in
    let start = c.args.desks.now.items in (
      c.loop-turn.ended,
      subst (λ n. Rounds (begins_by g.W.Task.standing (g.G.Gate.lets c.args.gate.now)) (g.W.Task.does, g.W.Task.hears) c.args.budget (length start) n (start, replicate 64 false) (c.loop-turn.desks.items, c.loop-turn.ended)) all inv.rounds,
    )
