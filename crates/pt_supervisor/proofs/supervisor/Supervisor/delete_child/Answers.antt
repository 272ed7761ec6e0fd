-- `Supervisor::delete_child`: its clauses `holds` and `remembers`.
use Rattle.std.proofs.Common.{sym, ◌∙◌}
use Rattle.pt_supervisor.specs.Hearing.{standing}
use Rattle.pt_supervisor.proofs.Changing.{less_holds, less_remembers}
use Rattle.pt_supervisor.proofs.supervisor.Supervisor.delete_child.Goals as goal

pub returns-in-Undefined-clause-holds : goal.returns-in-Undefined-clause-holds
returns-in-Undefined-clause-holds g c =
    let s = standing c.args.self.now in
    less_holds c.in-Some.place c.child.result s (standing c.forget.new.self) c.child.ensures
    (sym c.state.ensures ∙ c.in-Undefined.is) c.forget.ensures.standing

pub returns-in-Undefined-clause-remembers : goal.returns-in-Undefined-clause-remembers
returns-in-Undefined-clause-remembers g c =
    let s = standing c.args.self.now in
    less_remembers c.in-Some.place c.child.result s (standing c.forget.new.self) c.child.ensures
    (sym c.state.ensures ∙ c.in-Undefined.is) c.forget.ensures.standing
