-- `Scheduler::go_on`: its contract.
use Rattle.std.proofs.Common.{reverse}
use Rattle.pt_scheduler.proofs.Keeping.{goes_on}
use Rattle.pt_scheduler.proofs.scheduler.Scheduler.go_on.Goals as goal

pub returns : goal.returns
returns c =
    let b = c.begin_over.ensures in
    goes_on (reverse c.args.history.now) c.args.self.now c.keep_exits.new.self c.begin_over.new.self c.keep_exits.ensures b.roles c.begin_over.result b.crew b.read b.all b.ok b.longer b.rest b.desk
