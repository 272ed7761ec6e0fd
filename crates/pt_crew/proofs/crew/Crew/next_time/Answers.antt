-- `Crew::next_time`: its contract.
use Rattle.pt_crew.proofs.Timing.{next_is}
use Rattle.pt_crew.proofs.crew.Crew.next_time.Goals as goal

pub returns : goal.returns
returns g c = λ d a. next_is c.args.self.now d a c.next.result c.next.ensures
