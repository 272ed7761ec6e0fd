-- The children that a behaviour bears.
use Rattle.std.specs.Prelude.{◌≡◌, ◌⊎◌, ℕ, ◌-◌, Bool, List, [], ◌∷◌, ◌++◌, length, take, drop, true, Result, Ok, Err}
use Rattle.pt_signal.specs.declared.pid.Pid.{Pid}
use Rattle.pt_shard.specs.declared.fault.Fault.{Fault}
use Rattle.pt_shard.specs.declared.fault.Fault.TheVariants.{Memory}
use Rattle.pt_events.specs.History.{is_unborn}
use Rattle.pt_shard.specs.ShardState.{ShardState, phase_of}
use Rattle.pt_shard.specs.Calls.{BearsChild}
use Rattle.pt_behaviour.specs.declared.behaviour.Next.{Next}
use Rattle.pt_behaviour.specs.declared.births.Role.{Role}
use Rattle.pt_behaviour.specs.declared.births.Births.{Births}

-- those that were born and wait to enter their crew, the first in front
abbrev pub born : {B : Type 0} → Births B → List (Role B)
born b = b.list.items

-- the time of the step, as a behaviour is told it
abbrev pub time_told : {B : Type 0} → Births B → ℕ
time_told b = b.time

-- those of them that waited before a behaviour was handed its item
abbrev pub kept_roles : {B : Type 0} → Births B → List (Role B)
kept_roles b = take (length b.list.items - b.fresh) b.list.items

-- who was born meanwhile: those that wait now behind those who waited before
abbrev pub bore : {B : Type 0} → List (Role B) → List (Role B) → List (Role B)
bore old new = drop (length old) new

-- a child, which was not born before, is born, and waits behind those who wait; or nothing has changed, where the desk refused the birth or there
-- was no memory
abbrev pub Bore : {B : Type 0} → Pid → Bool → B → Next → ShardState → List (Role B) → Result Pid Fault → ShardState
    → List (Role B) → Type 0
Bore me linked b first d wait (Ok p) e waiting =
    BearsChild me linked d (Ok p) e × (waiting ≡ wait ++ record { pid = p; behaviour = b; next = first } ∷ [])
    × (is_unborn (phase_of d p) ≡ true)
Bore me linked b first d wait (Err f) e waiting =
    (BearsChild me linked d (Err f) e ⊎ ((f ≡ Memory) × (e ≡ d))) × (waiting ≡ wait)
