-- `work_turns`: its clauses `goes_on` and `turns`, and its loop over `turn`.
use Rattle.std.proofs.Common.{◌≡◌, add-one, true, false, MatchBool, inr, sym, subst}
use Rattle.pt_desk.proofs.Turning.{goes_on_then}
use Rattle.pt_workers.specs.Running.{TakesTurn, TakesTurns, WorkRelation, begins_by}
use Rattle.pt_workers.proofs.running.work_turns.Goals as goal

pub returns-then-not-one_turn-clause-goes_on : goal.returns-then-not-one_turn-clause-goes_on
returns-then-not-one_turn-clause-goes_on g c = goes_on_then _ _ _ c.loop-turn.invariant.goes_on c.one_turn.ensures.goes_on

pub returns-then-not-one_turn-clause-turns : goal.returns-then-not-one_turn-clause-turns
returns-then-not-one_turn-clause-turns g c =
    let lets = begins_by g.W.Task.standing (g.G.Gate.lets c.args.gate.now) in
    let does : WorkRelation g.row.W.Denot = (g.W.Task.does, g.W.Task.hears) in
    let same : c.loop-turn.pair.0.shard.number ≡ c.args.pair.now.0.shard.number = c.loop-turn.invariant.goes_on.shard.number in
    let shut = subst (λ n. lets n c.loop-turn.pair.1 c.loop-turn.turn false) same (subst (λ b. lets c.loop-turn.pair.0.shard.number c.loop-turn.pair.1 c.loop-turn.turn b) c.if-not-one_turn.true c.one_turn.ensures.lets) in
    let stays : c.one_turn.new.pair ≡ c.loop-turn.pair = subst (λ b. MatchBool b (TakesTurn does c.args.budget c.loop-turn.pair c.one_turn.new.pair) (c.one_turn.new.pair ≡ c.loop-turn.pair)) c.if-not-one_turn.true c.one_turn.ensures.takes in
    record {
      count = c.loop-turn.turn;
      took = subst (λ p. TakesTurns (lets c.args.pair.now.0.shard.number) does c.args.budget c.loop-turn.turn c.args.pair.now p) (sym stays) c.loop-turn.invariant.took;
      ends = inr (c.loop-turn-test.true, subst (λ p. lets c.args.pair.now.0.shard.number p.1 c.loop-turn.turn false) (sym stays) shut);
    }

pub loop-turn-preserved : goal.loop-turn-preserved
loop-turn-preserved g c =
    let lets = begins_by g.W.Task.standing (g.G.Gate.lets c.args.gate.now) in
    let does : WorkRelation g.row.W.Denot = (g.W.Task.does, g.W.Task.hears) in
    let same : c.loop-turn.pair.0.shard.number ≡ c.args.pair.now.0.shard.number = c.loop-turn.invariant.goes_on.shard.number in
    let let_in = subst (λ n. lets n c.loop-turn.pair.1 c.loop-turn.turn true) same (subst (λ b. lets c.loop-turn.pair.0.shard.number c.loop-turn.pair.1 c.loop-turn.turn b) c.if-not-one_turn.false c.one_turn.ensures.lets) in
    let took : TakesTurn does c.args.budget c.loop-turn.pair c.one_turn.new.pair = subst (λ b. MatchBool b (TakesTurn does c.args.budget c.loop-turn.pair c.one_turn.new.pair) (c.one_turn.new.pair ≡ c.loop-turn.pair)) c.if-not-one_turn.false c.one_turn.ensures.takes in
    record {
      goes_on = goes_on_then _ _ _ c.loop-turn.invariant.goes_on c.one_turn.ensures.goes_on;
      took = subst (λ n. TakesTurns (lets c.args.pair.now.0.shard.number) does c.args.budget n c.args.pair.now c.one_turn.new.pair) (sym (add-one c.loop-turn.turn))
          (c.loop-turn.pair, c.loop-turn.invariant.took, let_in, took);
    }
