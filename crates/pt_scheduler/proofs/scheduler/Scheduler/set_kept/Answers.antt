-- `Scheduler::set_kept`: its contract.
use Rattle.std.proofs.Common.{ap, Some, None}
use Rattle.pt_crew.specs.Crews.{roles}
use Rattle.pt_scheduler.specs.declared.member.Notes.{Notes}
use Rattle.pt_scheduler.proofs.Noting.{no_role}
use Rattle.pt_scheduler.proofs.Keeping.{exit_kept, none_of_these}
use Rattle.pt_scheduler.proofs.scheduler.Scheduler.set_kept.Goals as goal

pub returns-in_default : goal.returns-in_default
returns-in_default c = none_of_these c.args.self.now c.args.p c.args.reason (no_role (roles c.args.self.now.crew c.args.p) c.in_default.ensures)

pub returns : goal.returns
returns c =
    exit_kept c.args.self.now c.set_notes.new.self c.args.p c.args.reason c.in-Some.member.now (record (c.notes-known.result) { ended = None; lost = Some c.args.reason }) c.in-Some.ensures
    (ap (λ (x : Notes). record x { ended = None; lost = Some c.args.reason }) c.notes-known.ensures) c.set_notes.ensures.sets c.set_notes.ensures.rest
