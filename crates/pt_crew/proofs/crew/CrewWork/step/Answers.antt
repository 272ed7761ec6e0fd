-- `CrewWork::step`: its contract, and its loop over `round`.
use Rattle.std.proofs.Common.{arith, sym, subst}
use Rattle.pt_shard.specs.ShardState.{ShardState}
use Rattle.pt_crew.specs.Crews.{Attends, roles, time_of}
use Rattle.pt_crew.specs.Handing.{Handed}
use Rattle.pt_crew.proofs.Visiting.{none_yet, next_round, last_look, all_rounds, one_fits, next_fits}
use Rattle.pt_crew.proofs.Handing.{rounds_hand}
use Rattle.pt_desk.proofs.Turning.{goes_on_then}
use Rattle.pt_crew.proofs.crew.CrewWork.step.Goals as goal

pub loop-round-init : goal.loop-round-init
loop-round-init g c =
    let answers = g.B.Behaviour.answers in
    let old = c.args.self.now in
    let begun = c.begin_step.new.self in
    let d = c.args.desk.now.shard in
    let b = c.begin_step.ensures.begins in
    let none = none_yet answers old begun d b.roles b.longer b.waiting b.left b.refused b.rounds b.time b.first b.due in
    record {
      so_far = next_round answers 0 old begun c.round.new.self d d c.round.new.desk.shard none c.round.ensures.visits (λ a. (c.begin_step.ensures.knows a.knows).queued.once) c.round.ensures.same c.round.ensures.time;
      low = omega arith;
      high = one_fits old.rounds;
      knows = λ k. c.round.ensures.knows (c.begin_step.ensures.knows k);
      timers = λ k t. c.round.ensures.timers (c.begin_step.ensures.knows k) (c.begin_step.ensures.timers t);
      room = λ r. c.round.ensures.room (c.begin_step.ensures.room r);
      goes_on = c.round.ensures.goes_on;
    }

pub loop-round-preserved : goal.loop-round-preserved
loop-round-preserved g c =
    let answers = g.B.Behaviour.answers in
    let inv = c.loop-round.invariant in
    record {
      so_far = next_round answers c.loop-round._round c.args.self.now c.loop-round.self c.round-in-loop-round.new.self c.args.desk.now.shard c.loop-round.desk.shard c.round-in-loop-round.new.desk.shard inv.so_far
          c.round-in-loop-round.ensures.visits (λ a. (inv.knows a.knows).queued.once) c.round-in-loop-round.ensures.same c.round-in-loop-round.ensures.time;
      low = let l = inv.low in omega (arith, l);
      high = next_fits c.loop-round._round c.args.self.now.rounds (omega (arith, c.loop-round-test.true, c.round.ensures.same, c.begin_step.ensures.begins.rounds));
      knows = λ k. c.round-in-loop-round.ensures.knows (inv.knows k);
      timers = λ k t. c.round-in-loop-round.ensures.timers (inv.knows k) (inv.timers k t);
      room = λ r. c.round-in-loop-round.ensures.room (inv.room r);
      goes_on = goes_on_then c.args.desk.now c.loop-round.desk c.round-in-loop-round.new.desk inv.goes_on c.round-in-loop-round.ensures.goes_on;
    }

pub returns : goal.returns
returns g c =
    let answers = g.B.Behaviour.answers in
    let inv = c.loop-round.invariant in
    let old = c.args.self.now in
    let d = c.args.desk.now.shard in
    let new = c.end_step.new.self in
    let e = c.loop-round.desk.shard in
    let count = all_rounds c.loop-round._round old.rounds inv.low (omega (arith, c.loop-round-test.false, c.round.ensures.same, c.begin_step.ensures.begins.rounds)) inv.high in
    let steps = last_look answers c.loop-round._round old c.loop-round.self new d e inv.so_far count c.end_step.ensures.ends in
    let attends : Attends old d → Attends c.loop-round.self e = λ a. record { knows = inv.knows a.knows; room = inv.room a.room; timers = inv.timers a.knows a.timers } in
    record {
      does = record {
        steps = steps;
        hands = subst (λ (x : ShardState). Handed answers (time_of old) (roles old) d steps.last.roles x) (sym steps.desk) (rounds_hand answers steps.queues _ steps.last steps.rounds);
        attends = λ a. let b = attends a in record { knows = c.end_step.ensures.knows b.knows; room = c.end_step.ensures.room b.room; timers = c.end_step.ensures.timers b.timers };
        awake = λ a. c.end_step.ensures.ends.awake (attends a);
      };
      goes_on = inv.goes_on;
    }
