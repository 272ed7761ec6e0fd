-- `changed_supervisors_tend`: its clauses `before` and `after`.
use Rattle.pt_supervisor.proofs.Tending.{changes_after, changes_before}
use Rattle.pt_supervisor.proofs.laws.changed_supervisors_tend.Goals as goal

pub returns-clause-before : goal.returns-clause-before
returns-clause-before c = changes_before

pub returns-clause-after : goal.returns-clause-after
returns-clause-after c = changes_after
