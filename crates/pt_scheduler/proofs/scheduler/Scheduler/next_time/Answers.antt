-- `Scheduler::next_time`: its contract.
use Rattle.pt_scheduler.proofs.scheduler.Scheduler.next_time.Goals as goal

pub returns : goal.returns
returns c = λ d a. c.next_time.ensures d a.crew
