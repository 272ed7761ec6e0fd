-- `calls_end_once`: its contract.
use Rattle.pt_names.proofs.Ends.{ends_first}
use Rattle.pt_c_tools.specs.Asking.{pending_of}
use Rattle.pt_c_tools.proofs.hearing.calls_end_once.Goals as goal

pub returns : goal.returns
returns c call events = ends_first (pending_of call) events
