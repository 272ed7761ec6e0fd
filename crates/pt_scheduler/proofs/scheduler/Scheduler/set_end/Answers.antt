-- `Scheduler::set_end`: its contract.
use Rattle.std.proofs.Common.{refl, ap}
use Rattle.pt_crew.specs.Crews.{roles}
use Rattle.pt_scheduler.specs.declared.member.Notes.{Notes}
use Rattle.std.proofs.Common.{Some}
use Rattle.pt_scheduler.proofs.Noting.{no_role, none_set, set_noted}
use Rattle.pt_scheduler.proofs.scheduler.Scheduler.set_end.Goals as goal

pub returns-in_default : goal.returns-in_default
returns-in_default c = none_set c.args.self.now c.args.self.now c.args.p c.args.reason (no_role (roles c.args.self.now.crew c.args.p) c.in_default.ensures) refl

pub returns : goal.returns
returns c =
    set_noted c.args.self.now c.set_notes.new.self c.args.p c.args.reason c.in-Some.member.now (record (c.notes-known.result) { ended = Some c.args.reason }) c.in-Some.ensures
    (ap (λ (x : Notes). record x { ended = Some c.args.reason }) c.notes-known.ensures) c.set_notes.ensures.sets c.set_notes.ensures.rest
