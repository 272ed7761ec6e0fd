-- `Runner::wake_all`: its clause `unmarked`, and its loop over `index`.
use Rattle.std.proofs.Common.{◌<◌, length, refl, subst, ◌∙◌, arith}
use Rattle.std.specs.List.{All}
use Rattle.std.proofs.lemmas.List.{take_all}
use Rattle.pt_runner.specs.Waiting.{IsUnmarked}
use Rattle.pt_runner.proofs.Waiting.{same_table, unmarked_more}
use Rattle.pt_runner.proofs.runner.Runner.wake_all.Goals as goal

pub loop-index-preserved : goal.loop-index-preserved
loop-index-preserved c =
    let r = c.loop-index.self in
    let i = c.loop-index.index in
    let inv = c.loop-index.invariant in
    let within : i < length r.actors.items = omega (arith, c.loop-index-test.true, inv.end, r.actors.ok.0) in
    record {
      table = same_table r.script.now.processes r.pids.items r.actors.items i c.index_mut.result.now _ within c.index_mut.ensures.value refl ∙ inv.table;
      unmarked = unmarked_more r.actors.items i _ refl inv.unmarked;
      end = inv.end;
      len = inv.len;
      room = inv.room;
      rest = inv.rest;
    }

pub returns-clause-unmarked : goal.returns-clause-unmarked
returns-clause-unmarked c =
    let xs = c.loop-index.self.actors.items in
    subst (All IsUnmarked) (take_all c.loop-index.index xs (omega (arith, c.loop-index-test.false, c.loop-index.invariant.end, c.loop-index.self.actors.ok.0))) c.loop-index.invariant.unmarked
