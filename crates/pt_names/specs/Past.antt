-- Which monitor each name has, by all that a registry did.
use Rattle.std.specs.Prelude.{◌≡◌, ◌&&◌, cond, List, [], ◌∷◌, Option, Some, None, Ok}
use Rattle.pt_signal.specs.declared.pid.Pid.{Pid}
use Rattle.pt_signal.specs.declared.ids.Ref.{Ref}
use Rattle.pt_signal.specs.declared.item.Item.{Item}
use Rattle.pt_signal.specs.declared.item.Item.TheVariants.{Down}
use Rattle.pt_signal.specs.Values.{same_pid, same_ref}
use Rattle.pt_names.specs.declared.name.Name.{Name}
use Rattle.pt_names.specs.declared.names.Holder.{Holder}
use Rattle.pt_names.specs.State.{NamesState, holder_of, same_name}
use Rattle.pt_names.specs.Calls.{IsNone, Registers, Unregisters}
use Rattle.pt_names.specs.Registering.{HearsNames}

-- what a call did; a call that failed, and `unregister` of a name that nobody has, did nothing
pub data NamesDeed : Type 0 where
  -- the process got the name, and this is the monitor that was made of it
  registered : Name → Pid → Ref → NamesDeed
  unregistered : Name → Holder → NamesDeed
  -- an item was shown, which freed this name, or none
  shown : Item → Option Name → NamesDeed

abbrev pub DoesNames : NamesDeed → NamesState → NamesState → Type 0
DoesNames (registered n p m) old new = Registers n p m old (Ok tt) new
DoesNames (unregistered n h) old new = Unregisters n old (Some h) new
DoesNames (shown i freed) old new = HearsNames i old freed new

-- from no names on the calls did all this, the newest in front, and left the names so
abbrev pub LeadsNames : List NamesDeed → NamesState → Type 0
LeadsNames [] s = IsNone s
LeadsNames (deed ∷ past) s = (before : NamesState) × LeadsNames past before × DoesNames deed before s

-- a holder whose DOWN was shown, of its own monitor, holds no name
abbrev pub unless_of : Pid → Ref → Option Holder → Option Holder
unless_of p m None = None
unless_of p m (Some h) = cond (same_pid p h.pid && same_ref m h.monitor) None (Some h)

abbrev pub unless_down : Item → Option Holder → Option Holder
unless_down (Down m p reason) holder = unless_of p m holder
unless_down i holder = holder

-- the process that has the name by all that was done, with its monitor: the one that was registered last, unless the
-- name was given up since, or the DOWN of that monitor was shown
abbrev pub holder_by : Name → List NamesDeed → Option Holder
holder_by n [] = None
holder_by n (registered other p m ∷ past) =
    cond (same_name other n) (Some (record { pid = p; monitor = m })) (holder_by n past)
holder_by n (unregistered other h ∷ past) = cond (same_name other n) None (holder_by n past)
holder_by n (shown i freed ∷ past) = unless_down i (holder_by n past)

-- So the monitor of a name stays from its registration on, until the name is given up or the DOWN of it is shown;
-- and then nobody has the name.
abbrev pub KeepMonitors : Type 0
KeepMonitors = (past : List NamesDeed) (s : NamesState) → LeadsNames past s → (n : Name)
    → holder_of s n ≡ holder_by n past
