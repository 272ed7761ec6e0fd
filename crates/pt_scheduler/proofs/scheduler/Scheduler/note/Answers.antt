-- `Scheduler::note`: its clauses, and its loop over `self`.
use Rattle.std.proofs.Common.{length, refl, reverse, ap, ◌∙◌, arith}
use Rattle.std.proofs.lemmas.List.{length-reverse}
use Rattle.pt_crew.proofs.Visiting.{rest_then}
use Rattle.pt_scheduler.proofs.Noting.{noted_next}
use Rattle.pt_scheduler.proofs.scheduler.Scheduler.note.Goals as goal

pub loop-self-init : goal.loop-self-init
loop-self-init c = record {
  attends = λ a. a;
  views = λ q. refl;
  queue = refl;
  rest = record { waiting = refl; left = refl; refused = refl; rounds = refl; time = refl };
  desk = refl;
}

pub loop-self-preserved : goal.loop-self-preserved
loop-self-preserved c =
    let inv = c.loop-self.invariant in
    let n = c.note_exit.ensures in
    record {
      attends = λ a. noted_next c.loop-self.self c.note_exit.new.self _ c.args.desk.now.shard c.events-events.result.now _ (c.events-events.ensures.events ∙ ap reverse c.journal.ensures.past) c.loop-self-test.true n refl
          (let r = n.read in omega (arith, r)) (inv.attends a);
      views = λ q. n.views q ∙ inv.views q;
      queue = n.queue ∙ inv.queue;
      rest = rest_then c.args.self.now.crew c.loop-self.self.crew c.note_exit.new.self.crew inv.rest n.rest;
      desk = n.desk ∙ inv.desk;
    }

pub returns-clause-noted : goal.returns-clause-noted
returns-clause-noted c =
    let inv = c.loop-self.invariant in
    let l = ap length (c.events-events.ensures.events ∙ ap reverse c.journal.ensures.past) in
    let r = length-reverse c.args.desk.now.shard.journal in
    let t = c.loop-self-test.false in
    λ a. record {
      attends = inv.attends a;
      all = omega (arith, l, r, t);
      views = inv.views;
      queue = inv.queue;
      rest = inv.rest;
    }
