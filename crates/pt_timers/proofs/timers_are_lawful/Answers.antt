-- `timers_are_lawful`: its contract.
use Rattle.pt_timers.proofs.Lawful.{are_pending, once, is_new, not_early, in_order}
use Rattle.pt_timers.proofs.timers_are_lawful.Goals as goal

pub returns : goal.returns
returns g c =
    record { are_pending = are_pending; once = once; new = is_new; not_early = not_early; in_order = in_order }
