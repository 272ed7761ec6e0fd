-- `add_sends`: its contract, and its loop.
use Rattle.std.proofs.Common.{ap, ◌∙◌, length, arith}
use Rattle.pt_auditor.proofs.Changing.{sends_more, sends_over}
use Rattle.pt_auditor.proofs.begun.add_sends.Goals as goal

pub loop-from-smaller : goal.loop-from-smaller
loop-from-smaller c =
    let more = sends_more c.loop-from.list.items c.in-Some.from c.in-Some.to c.in-Some.signal c.loop-from.sent _ c.in-Some.ensures c.without_oldest-sent.ensures in
    omega (arith, ap length more.0)

pub loop-from-preserved : goal.loop-from-preserved
loop-from-preserved c =
    let more = sends_more c.loop-from.list.items c.in-Some.from c.in-Some.to c.in-Some.signal c.loop-from.sent _ c.in-Some.ensures c.without_oldest-sent.ensures in
    rw c.in_ok-push.ensures.items (more.1 ∙ c.loop-from.invariant)

pub returns : goal.returns
returns c = sends_over c.loop-from.list.items _ c.loop-from.sent c.loop-from.invariant c.in_default.ensures
