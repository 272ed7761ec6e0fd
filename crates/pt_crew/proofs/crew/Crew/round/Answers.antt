-- `Crew::round`: its clause `visits`, and its loop over `place`.
use Rattle.std.proofs.Common.{arith, refl, ◌∙◌}
use Rattle.pt_crew.specs.Crews.{queue}
use Rattle.pt_crew.proofs.Visiting.{none_so_far, one_more, all_so_far}
use Rattle.pt_desk.proofs.Turning.{goes_on_then}
use Rattle.pt_workers.proofs.GoingOn.{stays}
use Rattle.pt_crew.proofs.crew.Crew.round.Goals as goal

pub loop-place-init : goal.loop-place-init
loop-place-init g c = record {
  so_far = none_so_far g.B.Behaviour.answers c.args.self.now c.args.desk.now.shard;
  knows = λ k. k;
  room = λ r. r;
  timers = λ k t. t;
  time = refl;
  same = refl;
  goes_on = stays c.args.desk.now;
}

pub loop-place-preserved : goal.loop-place-preserved
loop-place-preserved g c =
    let inv = c.loop-place.invariant in
    let len = c.len-place-end.ensures in
    record {
      so_far = one_more g.B.Behaviour.answers (queue c.args.self.now) c.loop-place._place c.args.self.now c.loop-place.self c.run_first.new.self c.args.desk.now.shard c.loop-place.desk.shard c.run_first.new.desk.shard
          (omega (arith, c.loop-place-test.true, len)) inv.so_far c.run_first.ensures.serves;
      knows = λ k. c.run_first.ensures.knows (inv.knows k);
      room = λ r. c.run_first.ensures.room (inv.room r);
      timers = λ k t. c.run_first.ensures.timers (inv.knows k) (inv.timers k t);
      time = c.run_first.ensures.time ∙ inv.time;
      same = c.run_first.ensures.same ∙ inv.same;
      goes_on = goes_on_then c.args.desk.now c.loop-place.desk c.run_first.new.desk inv.goes_on c.run_first.ensures.goes_on;
    }

pub returns-clause-visits : goal.returns-clause-visits
returns-clause-visits g c =
    let len = c.len-place-end.ensures in
    all_so_far g.B.Behaviour.answers (queue c.args.self.now) c.loop-place._place c.args.self.now c.loop-place.self c.args.desk.now.shard c.loop-place.desk.shard
    (omega (arith, c.loop-place-test.false, len)) c.loop-place.invariant.so_far
