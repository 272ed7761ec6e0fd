-- `Scheduler::tag`: its contract.
use Rattle.std.proofs.Common.{Some, ap, ◌∙◌}
use Rattle.pt_crew.specs.Crews.{roles}
use Rattle.pt_scheduler.proofs.Noting.{tag_seen, no_tag}
use Rattle.pt_scheduler.proofs.scheduler.Scheduler.tag.Goals as goal

pub returns-in-Some : goal.returns-in-Some
returns-in-Some c = ap Some c.tag.ensures ∙ tag_seen (roles c.args.self.now.crew c.args.p) c.in-Some.member.now c.in-Some.ensures

pub returns-in-None : goal.returns-in-None
returns-in-None c = no_tag (roles c.args.self.now.crew c.args.p) c.in-None.ensures
