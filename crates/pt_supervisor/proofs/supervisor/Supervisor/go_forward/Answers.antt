-- `Supervisor::go_forward`: its clauses `does` and `supervises`.
use Rattle.std.proofs.Common.{◌≡◌, ℕ, Option, Some, None, refl, slice_get, subst, sym, ◌∙◌}
use Rattle.pt_supervisor.specs.Hearing.{standing}
use Rattle.pt_children.specs.Homes.{place_coming}
use Rattle.pt_supervisor.specs.Supervising.{GoesForward, supervisor_scene}
use Rattle.pt_supervisor.proofs.Joining.{meets_supervise}
use Rattle.pt_supervisor.proofs.supervisor.Supervisor.go_forward.Goals as goal

pub returns-in-Some-clause-does : goal.returns-in-Some-clause-does
returns-in-Some-clause-does g c =
    let found : place_coming (standing c.args.self.now).children ≡ Some c.in-Some.place = sym c.coming.ensures.place ∙ c.in-Some.is in
    subst (λ (o : Option ℕ). GoesForward g.S.Start.starts c.args.me c.args.now o (supervisor_scene c.args.self.now c.args.desk.now c.args.births.now) c.meet.result
    (supervisor_scene c.meet.new.self c.meet.new.desk c.args.births.now)) (sym found) (c.meet.ensures.does, c.meet.ensures.start, refl)

pub returns-in-Some-clause-supervises : goal.returns-in-Some-clause-supervises
returns-in-Some-clause-supervises g c =
    let s = standing c.args.self.now in
    meets_supervise c.args.me c.in-Some.place (slice_get s.children c.in-Some.place) s c.args.desk.now c.meet.result (standing c.meet.new.self) c.meet.new.desk
    (sym c.coming.ensures.place ∙ c.in-Some.is) c.meet.ensures.does

pub returns-in-None-clause-does : goal.returns-in-None-clause-does
returns-in-None-clause-does g c =
    let none : place_coming (standing c.args.self.now).children ≡ None = sym c.coming.ensures.place ∙ c.in-None.is in
    subst (λ (o : Option ℕ). GoesForward g.S.Start.starts c.args.me c.args.now o (supervisor_scene c.args.self.now c.args.desk.now c.args.births.now) c.advance.result
    (supervisor_scene c.advance.new.self c.advance.new.desk c.advance.new.births)) (sym none) c.advance.ensures.does
