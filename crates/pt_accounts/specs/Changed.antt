-- The slots that have changed since the table last forgot. No public clause cites this module.
use Rattle.std.specs.Prelude.{⊤, ◌≡◌, ◌⊎◌, ℕ, Bool, true, false, List, slice_index_or}
use Rattle.std.specs.List.{Contains}
use Rattle.std.specs.Option.{option_map}
use Rattle.pt_signal.specs.declared.pid.Pid.{Pid}
use Rattle.pt_signal.specs.declared.signal.Signal.{Signal}
use Rattle.pt_signal.specs.declared.signal.Signal.TheVariants.{Message}
use Rattle.pt_events.specs.declared.event.Event.{Event}
use Rattle.pt_events.specs.declared.event.Event.TheVariants.{Came, Took, Left}
use Rattle.pt_accounts.specs.LifeState.{LifeState}
use Rattle.pt_accounts.specs.DeskLives.{forgotten}
use Rattle.pt_accounts.specs.Table.{Slots, of_version, slot_at}
use Rattle.pt_accounts.specs.SlotState.{IsCountedUpTo}

-- each slot that is marked is in the list
abbrev pub AreListed : List Bool → List ℕ → Type 0
AreListed listed slots = (s : ℕ) → slice_index_or listed s false ≡ true → Contains slots s

-- processes of which there is nothing to forget
abbrev pub AreForgotten : List LifeState → Type 0
AreForgotten lives = (v : ℕ) → option_map forgotten (of_version lives v) ≡ of_version lives v

-- there is something to forget in no slot but those in the list
abbrev pub OthersAreForgotten : List ℕ → Slots → Type 0
OthersAreForgotten changed slots = (s : ℕ) → Contains changed s ⊎ AreForgotten (slot_at slots s)

-- what a table has is counted, and it knows where there is something to forget
pub record IsWellKept (ever : ℕ) (changed : List ℕ) (slots : Slots) : Type 0 where
  pub counted : IsCountedUpTo ever slots
  pub others : OthersAreForgotten changed slots

-- a message ends nobody; another signal may
abbrev pub CameIsNoted : Pid → Signal → List ℕ → Type 0
CameIsNoted b (Message body) changed = ⊤
CameIsNoted b x changed = Contains changed b.slot

-- if the event may leave something to forget of its process, that one's slot is in the list
abbrev pub SlotIsNoted : Event → List ℕ → Type 0
SlotIsNoted (Came a b x) changed = CameIsNoted b x changed
SlotIsNoted (Took p k i) changed = Contains changed p.slot
SlotIsNoted (Left p r) changed = Contains changed p.slot
SlotIsNoted _ changed = ⊤
