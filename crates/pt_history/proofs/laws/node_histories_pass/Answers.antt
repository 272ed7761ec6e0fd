-- `node_histories_pass`: its clauses `journals` and `calls`.
use Rattle.pt_history.proofs.Audited.{node_passes, node_calls_pass}
use Rattle.pt_history.proofs.laws.node_histories_pass.Goals as goal

pub returns-clause-journals : goal.returns-clause-journals
returns-clause-journals c g merged whole from m = node_passes g whole from c.journals_pass.ensures.journals merged m

pub returns-clause-calls : goal.returns-clause-calls
returns-clause-calls c g merged whole from m all o h = node_calls_pass g whole from c.journals_pass.ensures.calls merged m all o h
