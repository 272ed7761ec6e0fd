-- `new_name`: its contract.
use Rattle.std.proofs.Common.{rules}
use Rattle.pt_script.proofs.operation.new_name.Goals as goal

pub returns : goal.returns
returns c = search rules
