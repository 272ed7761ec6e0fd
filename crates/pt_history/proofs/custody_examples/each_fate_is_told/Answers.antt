-- `each_fate_is_told`: its contract.
use Rattle.pt_history.proofs.Stories.{tells_each_fate}
use Rattle.pt_history.proofs.custody_examples.each_fate_is_told.Goals as goal

pub returns : goal.returns
returns c = tells_each_fate
