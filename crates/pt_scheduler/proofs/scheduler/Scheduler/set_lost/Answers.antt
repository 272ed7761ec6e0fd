-- `Scheduler::set_lost`: its contract.
use Rattle.std.proofs.Common.{ap, Some}
use Rattle.pt_crew.specs.Crews.{roles}
use Rattle.pt_scheduler.specs.declared.member.Notes.{Notes}
use Rattle.pt_scheduler.proofs.Noting.{HasLost, lost_set, no_role, none_lost}
use Rattle.pt_scheduler.proofs.scheduler.Scheduler.set_lost.Goals as goal

pub returns-in_default-clause-notes : goal.returns-in_default-clause-notes
returns-in_default-clause-notes c = none_lost c.args.self.now c.args.p c.args.reason (no_role (roles c.args.self.now.crew c.args.p) c.in_default.ensures)

has_lost : (c : goal.After-set_notes) → HasLost c.args.p c.args.reason c.args.self.now c.set_notes.new.self
has_lost c =
    lost_set c.args.self.now c.set_notes.new.self c.args.p c.args.reason c.in-Some.member.now (record (c.notes-known.result) { lost = Some c.args.reason }) c.in-Some.ensures
    (ap (λ (x : Notes). record x { lost = Some c.args.reason }) c.notes-known.ensures) c.set_notes.ensures.sets c.set_notes.ensures.rest

pub returns-clause-notes : goal.returns-clause-notes
returns-clause-notes c = (has_lost c).0

pub returns-clause-attends : goal.returns-clause-attends
returns-clause-attends c = (has_lost c).1
