-- `Scheduler::children`: its contract.
use Rattle.std.proofs.Common.{◌∙◌}
use Rattle.pt_crew.specs.Crews.{roles}
use Rattle.pt_scheduler.proofs.Noting.{children_of, no_children}
use Rattle.pt_scheduler.proofs.scheduler.Scheduler.children.Goals as goal

pub returns-in-Some : goal.returns-in-Some
returns-in-Some c = c.children.ensures ∙ children_of (roles c.args.self.now.crew c.args.p) c.in-Some.member.now c.in-Some.ensures

pub returns-in-None : goal.returns-in-None
returns-in-None c = no_children (roles c.args.self.now.crew c.args.p) c.in-None.ensures
