-- `stopped_children_ended`: its clauses `left`, `left_work`, `receipt` and `ended`.
use Rattle.pt_crew.proofs.Upholding.{step_left, work_left, receipt_left}
use Rattle.pt_supervisor.specs.Keeping.{Keeps}
use Rattle.pt_supervisor.proofs.Tending.{upheld}
use Rattle.pt_pauses.proofs.Stopping.{stopped_children}
use Rattle.pt_pauses.proofs.supervised.stopped_children_ended.Goals as goal

pub returns-clause-left : goal.returns-clause-left
returns-clause-left g c = λ past. step_left g.B.Behaviour.answers (Keeps past g.B.Supervised.supervisor) (upheld past g.B.Supervised.supervisor g.B.Behaviour.answers g.met.B.Supervised.supervises)

pub returns-clause-left_work : goal.returns-clause-left_work
returns-clause-left_work g c = λ past. work_left g.B.Behaviour.answers (Keeps past g.B.Supervised.supervisor) (upheld past g.B.Supervised.supervisor g.B.Behaviour.answers g.met.B.Supervised.supervises)

pub returns-clause-receipt : goal.returns-clause-receipt
returns-clause-receipt g c = λ past. receipt_left g.B.Behaviour.answers (Keeps past g.B.Supervised.supervisor) (upheld past g.B.Supervised.supervisor g.B.Behaviour.answers g.met.B.Supervised.supervises)

pub returns-clause-ended : goal.returns-clause-ended
returns-clause-ended g c = stopped_children g.B.Supervised.supervisor c.merge_is_legal.ensures c.merge_known.ensures
