-- `Crew::admit`: its clause `admits`, and its loop over `place`.
use Rattle.std.proofs.Common.{arith}
use Rattle.pt_shard.specs.ShardState.{lives}
use Rattle.pt_crew.proofs.Visiting.{none_entered, next_enters, all_entered}
use Rattle.pt_crew.proofs.crew.Crew.admit.Goals as goal

pub loop-place-init : goal.loop-place-init
loop-place-init g c = record { so_far = none_entered (lives c.args.desk.now.shard) c.args.self.now; knows = λ k. k; timers = λ k. k; room = λ r. r }

pub loop-place-preserved : goal.loop-place-preserved
loop-place-preserved g c =
    let inv = c.loop-place.invariant in
    let len = c.len-place-end.ensures in
    record {
      so_far = next_enters (lives c.args.desk.now.shard) c.loop-place._place c.args.self.now c.loop-place.self c.admit_one.new.self (omega (arith, c.loop-place-test.true, len)) inv.so_far c.admit_one.ensures.admits;
      knows = λ k. c.admit_one.ensures.knows (inv.knows k);
      timers = λ k. c.admit_one.ensures.timers (inv.timers k);
      room = λ r. c.admit_one.ensures.room (inv.room r);
    }

pub returns-clause-admits : goal.returns-clause-admits
returns-clause-admits g c =
    let len = c.len-place-end.ensures in
    all_entered (lives c.args.desk.now.shard) c.loop-place._place c.args.self.now c.loop-place.self (omega (arith, c.loop-place-test.false, c.loop-place.auto._place-end, len)) c.loop-place.invariant.so_far
