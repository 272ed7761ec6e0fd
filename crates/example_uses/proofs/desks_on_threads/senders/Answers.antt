-- `senders`: its clause `node`, and its loop over `d`.
use Rattle.std.proofs.Common.{arith, rules}
use Rattle.pt_workers.proofs.StillDesks.{still_desks}
use Rattle.example_uses.proofs.desks_on_threads.senders.Goals as goal

pub returns-in_err-me-clause-node : goal.returns-in_err-me-clause-node
returns-in_err-me-clause-node c =
    still_desks c.loop-d.desks.items c.loop-d.d c.index_mut.result.now c.spawn.new.self c.loop-d.invariant.node
    (omega (arith, c.loop-d-test.true, c.loop-d.invariant.count, c.len-d-end.ensures, c.loop-d.desks.ok.0)) c.index_mut.ensures.value
    (c.spawn.ensures.goes_on.place, c.spawn.ensures.goes_on.shard.config, c.spawn.ensures.goes_on.sight.directory, c.spawn.ensures.goes_on.shard.start)

pub loop-d-preserved : goal.loop-d-preserved
loop-d-preserved c = record {
  node =
      still_desks c.loop-d.desks.items c.loop-d.d c.index_mut.result.now c.spawn.new.self c.loop-d.invariant.node
      (omega (arith, c.loop-d-test.true, c.loop-d.invariant.count, c.len-d-end.ensures, c.loop-d.desks.ok.0)) c.index_mut.ensures.value
      (c.spawn.ensures.goes_on.place, c.spawn.ensures.goes_on.shard.config, c.spawn.ensures.goes_on.sight.directory, c.spawn.ensures.goes_on.shard.start);
  count = search rules;
  made = search rules;
  room = search rules;
}
