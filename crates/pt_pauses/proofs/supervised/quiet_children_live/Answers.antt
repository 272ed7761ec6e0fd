-- `quiet_children_live`: its clauses `nobody`, `step`, `work`, `receipt`, `enter`, `idle` and `live`.
use Rattle.pt_crew.proofs.Upholding.{step_upholds, work_upholds, receipt_upholds, enter_upholds}
use Rattle.pt_supervisor.specs.Keeping.{Keeps}
use Rattle.pt_supervisor.proofs.Tending.{begins, upheld}
use Rattle.pt_pauses.proofs.Still.{children_live}
use Rattle.pt_crew.proofs.Resting.{nobody_upholds, awake_idle}
use Rattle.pt_pauses.proofs.supervised.quiet_children_live.Goals as goal

pub returns-clause-nobody : goal.returns-clause-nobody
returns-clause-nobody g c = λ past. nobody_upholds (Keeps past g.B.Supervised.supervisor)

pub returns-clause-step : goal.returns-clause-step
returns-clause-step g c = λ past. step_upholds g.B.Behaviour.answers (Keeps past g.B.Supervised.supervisor) (upheld past g.B.Supervised.supervisor g.B.Behaviour.answers g.met.B.Supervised.supervises)

pub returns-clause-work : goal.returns-clause-work
returns-clause-work g c = λ past. work_upholds g.B.Behaviour.answers (Keeps past g.B.Supervised.supervisor) (upheld past g.B.Supervised.supervisor g.B.Behaviour.answers g.met.B.Supervised.supervises)

pub returns-clause-receipt : goal.returns-clause-receipt
returns-clause-receipt g c = λ past. receipt_upholds g.B.Behaviour.answers (Keeps past g.B.Supervised.supervisor) (upheld past g.B.Supervised.supervisor g.B.Behaviour.answers g.met.B.Supervised.supervises)

pub returns-clause-enter : goal.returns-clause-enter
returns-clause-enter g c = λ past b first old new d e result enters starts.
    enter_upholds g.B.Behaviour.answers (Keeps past g.B.Supervised.supervisor) (upheld past g.B.Supervised.supervisor g.B.Behaviour.answers g.met.B.Supervised.supervises) b first old new d e result enters
    (λ p x. begins past (g.B.Supervised.supervisor b) first p x starts)

pub returns-clause-idle : goal.returns-clause-idle
returns-clause-idle g c = awake_idle

pub returns-clause-live : goal.returns-clause-live
returns-clause-live g c = children_live g.B.Supervised.supervisor
    c.still_node_laws.ensures
