-- `Scheduler::is_idle`: its clauses `quiet` and `told`.
use Rattle.pt_crew.proofs.Resting.{awake_idle}
use Rattle.pt_scheduler.proofs.Idle.{none_noted}
use Rattle.pt_scheduler.proofs.scheduler.Scheduler.is_idle.Goals as goal

pub returns-clause-quiet : goal.returns-clause-quiet
returns-clause-quiet c = λ yes a.
    let w = c.is_idle.ensures.awake yes a.crew in awake_idle c.args.self.now.crew c.args.desk.now.shard w.1 w.0

pub returns-clause-told : goal.returns-clause-told
returns-clause-told c = λ yes a.
    let w = c.is_idle.ensures.awake yes a.crew in none_noted c.args.self.now c.args.desk.now.shard a c.journal-lawful.ensures.local w.0 w.1
