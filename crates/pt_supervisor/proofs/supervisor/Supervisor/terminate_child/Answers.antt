-- `Supervisor::terminate_child`: its clauses `holds` and `remembers`.
use Rattle.std.proofs.Common.{false}
use Rattle.pt_supervisor.specs.Hearing.{standing}
use Rattle.pt_supervisor.proofs.Changing.{with_wanted_holds, with_wanted_remembers}
use Rattle.pt_supervisor.proofs.supervisor.Supervisor.terminate_child.Goals as goal

pub returns-clause-holds : goal.returns-clause-holds
returns-clause-holds g c = with_wanted_holds false c.in-Some.place (standing c.args.self.now) (standing c.want.new.self) c.want.ensures.standing

pub returns-clause-remembers : goal.returns-clause-remembers
returns-clause-remembers g c = with_wanted_remembers false c.in-Some.place (standing c.args.self.now) (standing c.want.new.self) c.want.ensures.standing
