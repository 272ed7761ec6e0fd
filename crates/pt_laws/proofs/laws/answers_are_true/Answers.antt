-- `answers_are_true`: its clauses `told` and `once`.
use Rattle.pt_laws.proofs.order.Asking.{answers_true}
use Rattle.pt_laws.proofs.order.Answered.{quiet_answers}
use Rattle.pt_laws.proofs.laws.answers_are_true.Goals as goal

pub returns-clause-told : goal.returns-clause-told
returns-clause-told c = answers_true

pub returns-clause-once : goal.returns-clause-once
returns-clause-once c start past q t m = quiet_answers q t m start past
