-- `desk_calls_pass`: its contract.
use Rattle.pt_history.proofs.Calling.{keeps, opened}
use Rattle.pt_history.proofs.laws.desk_calls_pass.Goals as goal

pub returns : goal.returns
returns c = record { opens = opened; calls = λ journal old new whole fresh. keeps journal old whole fresh new }
