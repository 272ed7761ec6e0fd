-- `trap_is_the_last_flag`: its contract.
use Rattle.pt_history.proofs.Flags.{trap_is_last_flag}
use Rattle.pt_history.proofs.laws.trap_is_the_last_flag.Goals as goal

pub returns : goal.returns
returns c start past p = trap_is_last_flag start p past
