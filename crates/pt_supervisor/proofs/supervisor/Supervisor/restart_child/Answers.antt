-- `Supervisor::restart_child`: its clauses `holds` and `remembers`.
use Rattle.std.proofs.Common.{true}
use Rattle.pt_supervisor.specs.Hearing.{standing}
use Rattle.pt_supervisor.proofs.Changing.{with_wanted_holds, with_wanted_remembers}
use Rattle.pt_supervisor.proofs.supervisor.Supervisor.restart_child.Goals as goal

pub returns-in-Undefined-clause-holds : goal.returns-in-Undefined-clause-holds
returns-in-Undefined-clause-holds g c = with_wanted_holds true c.in-Some.place (standing c.args.self.now) (standing c.want.new.self) c.want.ensures.standing

pub returns-in-Undefined-clause-remembers : goal.returns-in-Undefined-clause-remembers
returns-in-Undefined-clause-remembers g c = with_wanted_remembers true c.in-Some.place (standing c.args.self.now) (standing c.want.new.self) c.want.ensures.standing
