-- `Scheduler::next`: its contract.
use Rattle.std.proofs.Common.{◌∙◌}
use Rattle.pt_crew.specs.Crews.{roles}
use Rattle.pt_scheduler.proofs.Noting.{next_seen}
use Rattle.pt_scheduler.proofs.scheduler.Scheduler.next.Goals as goal

pub returns : goal.returns
returns c = c.next.ensures ∙ next_seen (roles c.args.self.now.crew c.args.p)
