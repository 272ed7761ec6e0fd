-- `State::alive`: its contract.
use Rattle.std.proofs.Common.{rules}
use Rattle.pt_judge.proofs.judging.state.State.alive.Goals as goal

pub returns : goal.returns
returns c = search rules
