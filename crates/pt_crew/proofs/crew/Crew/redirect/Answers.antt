-- `Crew::redirect`: its clauses `redirected` and `attends`.
use Rattle.std.proofs.Common.{ap, ◌∙◌}
use Rattle.std.specs.Prelude.{not}
use Rattle.pt_crew.specs.Crews.{roles}
use Rattle.pt_crew.proofs.Redirecting.{attends_redirected, of_crew, redirected}
use Rattle.pt_crew.proofs.crew.Crew.redirect.Goals as goal

pub returns-clause-redirected : goal.returns-clause-redirected
returns-clause-redirected g c =
    let w = c.wake.ensures in
    let s = c.set_next.ensures in
    redirected c.args.p c.args.next c.args.self.now c.wake.new.self c.set_next.new.self c.wake.result w.wakes w.refused s.set s.queue s.read s.rest
    (of_crew (roles c.args.self.now c.args.p) c.next.result c.next.ensures (c.is_none.ensures ∙ ap not c.if-is_none.false))

pub returns-clause-attends : goal.returns-clause-attends
returns-clause-attends g c = λ d a.
    let w = c.wake.ensures in
    let s = c.set_next.ensures in
    attends_redirected c.args.p c.args.next c.args.self.now c.wake.new.self c.set_next.new.self c.wake.result w.wakes w.refused d w.room (s.knows d) s.timers s.room a
