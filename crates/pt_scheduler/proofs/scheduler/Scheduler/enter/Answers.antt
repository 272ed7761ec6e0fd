-- `Scheduler::enter`: its clauses `attends` and `upholds`.
use Rattle.std.proofs.Common.{None, Some, refl}
use Rattle.pt_scheduler.proofs.Exits.{no_exit_born}
use Rattle.pt_scheduler.proofs.Noting.{attends_same, one_entered}
use Rattle.pt_scheduler.proofs.Upheld.{spawn_upholds}
use Rattle.pt_scheduler.proofs.scheduler.Scheduler.enter.Goals as goal

pub returns-clause-attends : goal.returns-clause-attends
returns-clause-attends c = λ a.
    let d = c.args.desk.now.shard in
    let e = c.enter.new.desk.shard in
    let n = c.enter.ensures in
    let k = a.crew in
    let p = c.in_ok-pid.pid in
    let does = c.in_ok-pid.ensures.does in
    one_entered c.args.self.now (record c.args.self.now { crew = c.enter.new.self; desk = Some c.number-own.result }) d e p c.args.member c.args.first c.requires a n.goes_on.shard (record { knows = n.knows k.knows; room = n.room k.room; timers = n.timers k.knows k.timers }) does.3 refl does.1
    (no_exit_born None None p d e does.0 c.journal-lawful.ensures.local)

pub returns-in_err-pid-clause-attends : goal.returns-in_err-pid-clause-attends
returns-in_err-pid-clause-attends c = λ a.
    let n = c.enter.ensures in
    let k = a.crew in
    attends_same c.args.self.now (record c.args.self.now { crew = c.enter.new.self }) c.args.desk.now.shard c.enter.new.desk.shard a n.goes_on.shard (record { knows = n.knows k.knows; room = n.room k.room; timers = n.timers k.knows k.timers }) c.in_err-pid.ensures.does.1 refl

pub returns-clause-upholds : goal.returns-clause-upholds
returns-clause-upholds c = λ past begins u.
    spawn_upholds past c.args.member c.args.first c.args.self.now (record c.args.self.now { crew = c.enter.new.self; desk = Some c.number-own.result }) c.args.desk.now.shard c.enter.new.desk.shard c.enter.result c.enter.ensures.does begins u

pub returns-in_err-pid-clause-upholds : goal.returns-in_err-pid-clause-upholds
returns-in_err-pid-clause-upholds c = λ past begins u.
    spawn_upholds past c.args.member c.args.first c.args.self.now (record c.args.self.now { crew = c.enter.new.self }) c.args.desk.now.shard c.enter.new.desk.shard c.enter.result c.enter.ensures.does begins u
