-- `pay`: its loop over `i`.
use Rattle.std.proofs.Common.{rules}
use Rattle.pt_signal.specs.Process.{sent}
use Rattle.pt_chart.proofs.Rows.{paid}
use Rattle.pt_chart.proofs.follower.pay.Goals as goal

pub loop-i-init : goal.loop-i-init
loop-i-init c = search rules

pub loop-i-preserved : goal.loop-i-preserved
loop-i-preserved c =
    paid c.args.at c.args.sent.now.items c.loop-i.sent.items c.push.new.self.items c.args.estate.now.owed c.loop-i.i
    (sent c.args.estate.now.from c.owed-signal.result.0 c.owed-signal.result.1) c.loop-i.invariant c.owed-signal.ensures c.in_ok-push.ensures.items
