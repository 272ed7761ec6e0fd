-- `Alarms::ring`: its clause `goes_on` where a message is kept, and its loop.
use Rattle.std.proofs.Common.{Ok, Bool, subst, ◌∙◌}
use Rattle.pt_desk.proofs.Turning.{goes_on_then}
use Rattle.pt_names.specs.Alarming.{RingsFirst}
use Rattle.pt_names.proofs.Ringing.{rings_next}
use Rattle.pt_names.proofs.alarms.Alarms.ring.Goals as goal

pub returns-in_err-ring_first-clause-goes_on : goal.returns-in_err-ring_first-clause-goes_on
returns-in_err-ring_first-clause-goes_on c =
    goes_on_then c.args.desk.now c.loop.desk c.ring_first.new.desk c.loop.invariant.goes_on c.ring_first.ensures.goes_on

pub loop-preserved : goal.loop-preserved
loop-preserved c = record {
  rang = rings_next c.args.me c.args.now c.args.self.now.timers c.args.desk.now c.loop.self.timers c.loop.desk c.ring_first.new.self.timers c.ring_first.new.desk c.loop.invariant.rang
      (subst (λ (b : Bool). RingsFirst c.args.me c.args.now c.loop.self.timers c.loop.desk (Ok b) c.ring_first.new.self.timers c.ring_first.new.desk) c.if-branch.true c.in_ok-ring_first.ensures.does);
  takes = c.ring_first.ensures.takes ∙ c.loop.invariant.takes;
  goes_on = goes_on_then c.args.desk.now c.loop.desk c.ring_first.new.desk c.loop.invariant.goes_on c.ring_first.ensures.goes_on;
}
