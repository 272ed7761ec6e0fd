-- `arrows_of`: its loop over `k`.
use Rattle.std.proofs.Common.{None, ap, ◌∙◌, rules, arith, take, get_or}
use Rattle.std.specs.Prelude.{pos, slice_get}
use Rattle.pt_signal.specs.declared.signal.Signal.TheVariants.{Message}
use Rattle.pt_chart.specs.declared.layout.Sending.{Sending}
use Rattle.pt_chart.specs.Chart.{column_place, receipts, sent_to}
use Rattle.pt_chart.proofs.Arrows.{arrows_next}
use Rattle.pt_chart.proofs.Arrivals.{awaits_next, first_left}
use Rattle.pt_chart.proofs.layout.arrows_of.Goals as goal

abbrev nothing : Sending
nothing = record { event = 0; to = record { shard = 0; slot = 0; version = 0 }; signal = Message (record { kind = 0; num = pos 0; who = None }) }

pub loop-k-preserved : goal.loop-k-preserved
loop-k-preserved c =
    let events = c.args.events.now in
    let from = c.args.from in
    let sent = c.args.sent.now in
    let k = c.loop-k.k in
    let l = get_or sent k nothing in
    let came =
    c.pop-came.ensures.first ∙ ap (λ rows. slice_get rows 0) (c.loop-k.invariant.waits l.to)
    ∙ first_left (receipts from l.to events) (sent_to l.to (take k sent))
    in
    record {
      made =
          arrows_next events c.args.pids.now from sent k nothing c.loop-k.arrows.items c.push_reserved.new.self.items c.arrow_of.result
          (omega arith) (c.arrow_of.ensures ∙ ap (λ row. record { to = column_place c.args.pids.now l.to; signal = l.signal; sent = l.event; came = row }) came)
          c.loop-k.invariant.made c.push_reserved.ensures.items;
      count = search rules;
      room = search rules;
      waits = awaits_next events from sent k nothing c.loop-k.receipts c.pop-came.new.self (omega arith) c.loop-k.invariant.waits c.pop-came.ensures.rest;
    }
