-- `crew_upholds`: its clauses `step`, `work`, `receipt`, `enter`, `left`, `left_work` and `left_receipt`.
use Rattle.pt_crew.proofs.Upholding.{step_upholds, work_upholds, receipt_upholds, enter_upholds, step_left, work_left, receipt_left}
use Rattle.pt_crew.proofs.upholds.crew_upholds.Goals as goal

pub returns-clause-step : goal.returns-clause-step
returns-clause-step g c = step_upholds g.B.Behaviour.answers g.B.Upheld.stands g.met.B.Upheld.upheld

pub returns-clause-work : goal.returns-clause-work
returns-clause-work g c = work_upholds g.B.Behaviour.answers g.B.Upheld.stands g.met.B.Upheld.upheld

pub returns-clause-receipt : goal.returns-clause-receipt
returns-clause-receipt g c = receipt_upholds g.B.Behaviour.answers g.B.Upheld.stands g.met.B.Upheld.upheld

pub returns-clause-enter : goal.returns-clause-enter
returns-clause-enter g c = enter_upholds g.B.Behaviour.answers g.B.Upheld.stands g.met.B.Upheld.upheld

pub returns-clause-left : goal.returns-clause-left
returns-clause-left g c = step_left g.B.Behaviour.answers g.B.Upheld.stands g.met.B.Upheld.upheld

pub returns-clause-left_work : goal.returns-clause-left_work
returns-clause-left_work g c = work_left g.B.Behaviour.answers g.B.Upheld.stands g.met.B.Upheld.upheld

pub returns-clause-left_receipt : goal.returns-clause-left_receipt
returns-clause-left_receipt g c = receipt_left g.B.Behaviour.answers g.B.Upheld.stands g.met.B.Upheld.upheld
