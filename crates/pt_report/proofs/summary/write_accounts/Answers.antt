-- `write_accounts`: its contract.
use Rattle.std.proofs.Common.{arith}
use Rattle.pt_events.specs.Journal.{events}
use Rattle.pt_gathered.specs.Gathered.{begins}
use Rattle.pt_report.proofs.Accounts.{all_lines}
use Rattle.pt_report.proofs.summary.write_accounts.Goals as goal

pub returns : goal.returns
returns g c = (
  c.pids-pid-items.result.now,
  λ merged is.
      (c.pids-pid-items.ensures merged is, all_lines (begins c.args.quiet.now.gathered) (events merged) c.pids-pid-items.result.now c.loop-pid.pid-index _ _ (omega (arith, c.loop-pid-test.false)) (c.loop-pid.invariant merged is)),
)
