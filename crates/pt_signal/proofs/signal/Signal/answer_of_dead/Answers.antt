-- `Signal::answer_of_dead`: its contract.
use Rattle.std.proofs.Common.{rules}
use Rattle.pt_signal.proofs.signal.Signal.answer_of_dead.Goals as goal

pub returns-in-Monitor : goal.returns-in-Monitor
returns-in-Monitor c = search rules

pub returns-in-AliveAsk : goal.returns-in-AliveAsk
returns-in-AliveAsk c = search rules
