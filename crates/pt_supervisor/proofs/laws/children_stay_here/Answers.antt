-- `children_stay_here`: its clauses `begins`, `items` and `calls`.
use Rattle.pt_supervisor.proofs.Staying.{calls_leave_here, handles_here}
use Rattle.pt_supervisor.proofs.laws.children_stay_here.Goals as goal

pub returns-clause-begins : goal.returns-clause-begins
returns-clause-begins g c strategy children limit parent here = here

pub returns-clause-items : goal.returns-clause-items
returns-clause-items g c = handles_here _

pub returns-clause-calls : goal.returns-clause-calls
returns-clause-calls g c = calls_leave_here
