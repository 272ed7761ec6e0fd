-- `journals_pass`: its clauses `journals` and `calls`.
use Rattle.pt_history.proofs.CalledHere.{calls_pass}
use Rattle.pt_history.proofs.Passing.{passes}
use Rattle.pt_history.proofs.laws.journals_pass.Goals as goal

pub returns-clause-journals : goal.returns-clause-journals
returns-clause-journals c low top count journal over merged node m = passes low top count journal over merged node m

pub returns-clause-calls : goal.returns-clause-calls
returns-clause-calls c low top count journal over merged node called m o = calls_pass low top count journal over merged node m called o
