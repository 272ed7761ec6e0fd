-- `Runner::look`: its loop over `self`.
use Rattle.std.proofs.Common.{ℕ, ◌+◌, List, reverse, ap, sym, subst, ◌∙◌}
use Rattle.pt_runner.specs.Waiting.{KnowsOf}
use Rattle.pt_runner.proofs.Waiting.{knows_looked}
use Rattle.pt_runner.proofs.runner.Runner.look.Goals as goal

pub loop-self-preserved : goal.loop-self-preserved
loop-self-preserved c =
    let r = c.loop-self.self in
    let d = c.args.desk.now.shard in
    record {
      knows = λ k. subst (λ (came : List ℕ). KnowsOf r.script.now.processes r.pids.items r.actors.items came (r.read + 1) d) (sym c.note.ensures)
          (knows_looked r.script.now.processes r.pids.items r.actors.items r.came.items r.read d c.events-events.result.now _ (c.events-events.ensures.events ∙ ap reverse c.journal.ensures.past) c.loop-self-test.true (c.loop-self.invariant.knows k));
      table = c.loop-self.invariant.table;
      len = c.loop-self.invariant.len;
    }
