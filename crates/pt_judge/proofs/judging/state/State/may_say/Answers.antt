-- `State::may_say`: its contract.
use Rattle.std.proofs.Common.{rules}
use Rattle.pt_judge.proofs.judging.state.State.may_say.Goals as goal

pub returns-in-LinkExit : goal.returns-in-LinkExit
returns-in-LinkExit c = search rules
