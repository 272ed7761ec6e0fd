-- `Runner::begin_again`: its clauses `knows` and `attends`.
use Rattle.std.proofs.Common.{inl, refl}
use Rattle.pt_runner.proofs.Waiting.{knows_nothing}
use Rattle.pt_runner.proofs.runner.Runner.begin_again.Goals as goal

pub returns-clause-knows : goal.returns-clause-knows
returns-clause-knows c = λ d.
    let r = c.wake_all.new.self in
    knows_nothing r.script.now.processes r.pids.items r.actors.items _ d c.wake_all.ensures.unmarked

pub returns-clause-attends : goal.returns-clause-attends
returns-clause-attends c = λ d. inl (record { unread = refl; unmarked = c.wake_all.ensures.unmarked })
