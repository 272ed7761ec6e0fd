-- `send_to`: its loop over `member`, and its clauses.
use Rattle.std.proofs.Common.{◌∙◌, arith}
use Rattle.pt_signal.specs.declared.pid.Pid.{Pid}
use Rattle.pt_desk.proofs.Turning.{goes_on_then}
use Rattle.pt_names.proofs.Sending.{leads_all, leads_on, leads_off, counted}
use Rattle.pt_names.proofs.group_registry.send_to.Goals as goal

pub loop-member-preserved : goal.loop-member-preserved
loop-member-preserved c =
    let inv = c.loop-member.invariant in
    let none : Pid = record { shard = 0; slot = 0; version = 0 } in
    let more = counted c.send-answer.result c.loop-member.done c.stops.new.done c.stops.result c.stops.ensures c.if-stops.false in
    record {
      count = omega (arith, more.0, inv.count);
      runs = more.1 ∙ inv.runs;
      leads = leads_on c.args.from c.args.body c.args.members.now c.args.desk.now c.loop-member.member-index none c.loop-member.done
          c.loop-member.desk c.send-answer.new.desk c.send-answer.result c.loop-member-test.true inv.leads c.send-answer.ensures.does c.stops.result
          c.stops.new.done c.stops.ensures c.if-stops.false;
      taken = c.send-answer.ensures.takes ∙ inv.taken;
      goes_on = goes_on_then c.args.desk.now c.loop-member.desk c.send-answer.new.desk inv.goes_on c.send-answer.ensures.goes_on;
    }

pub returns-clause-does : goal.returns-clause-does
returns-clause-does c =
    let inv = c.loop-member.invariant in
    leads_all c.args.from c.args.body c.args.members.now c.args.desk.now c.loop-member.member-index c.loop-member.done
    c.loop-member.desk (omega (arith, c.loop-member-test.false)) inv.runs inv.leads

pub returns-then-stops-clause-does : goal.returns-then-stops-clause-does
returns-then-stops-clause-does c =
    let none : Pid = record { shard = 0; slot = 0; version = 0 } in
    leads_off c.args.from c.args.body c.args.members.now c.args.desk.now c.loop-member.member-index none c.loop-member.done
    c.loop-member.desk c.send-answer.new.desk c.send-answer.result c.loop-member-test.true c.loop-member.invariant.leads
    c.send-answer.ensures.does c.stops.result c.stops.new.done c.stops.ensures c.if-stops.true

pub returns-then-stops-clause-goes_on : goal.returns-then-stops-clause-goes_on
returns-then-stops-clause-goes_on c =
    goes_on_then c.args.desk.now c.loop-member.desk c.send-answer.new.desk c.loop-member.invariant.goes_on c.send-answer.ensures.goes_on
