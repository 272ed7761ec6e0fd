-- What a process took.
use Rattle.std.specs.Prelude.{cond, List, [], ◌∷◌, ◌++◌}
use Rattle.pt_signal.specs.declared.pid.Pid.{Pid}
use Rattle.pt_signal.specs.declared.item.Item.{Item}
use Rattle.pt_signal.specs.Values.{same_pid}
use Rattle.pt_events.specs.declared.event.Event.{Event}
use Rattle.pt_events.specs.declared.event.Event.TheVariants.{Took}
use Rattle.pt_events.specs.History.{Past}

abbrev pub taken_by : Pid → Event → List Item
taken_by p (Took q k i) = cond (same_pid p q) (i ∷ []) []
taken_by p _ = []

-- the items of p's Took events, in order
abbrev pub taken : Past → Pid → List Item
taken [] p = []
taken (e ∷ past) p = taken past p ++ taken_by p e
