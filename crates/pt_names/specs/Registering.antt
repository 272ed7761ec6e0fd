-- How a process is registered and monitored, and how its name is given up and forgotten.
use Rattle.std.specs.Prelude.{◌≡◌, ◌⊎◌, ⊤, Bool, List, Option, Some, None, MatchOption, slice_get, Result, Ok, Err}
use Rattle.pt_signal.specs.declared.pid.Pid.{Pid}
use Rattle.pt_signal.specs.declared.ids.Ref.{Ref}
use Rattle.pt_signal.specs.declared.item.Item.{Item}
use Rattle.pt_signal.specs.declared.item.Item.TheVariants.{Down}
use Rattle.pt_names.specs.declared.name.Name.{Name}
use Rattle.pt_names.specs.declared.names.Holder.{Holder}
use Rattle.pt_names.specs.declared.names.RegisterError.{RegisterError}
use Rattle.pt_names.specs.State.{NamesState, holder_of}
use Rattle.pt_names.specs.Calls.{IsFree, Checks, Registers, Unregisters}
use Rattle.pt_shard.specs.declared.fault.Fault.{Fault}
use Rattle.pt_desk.specs.DeskState.{DeskState}
use Rattle.pt_names.specs.declared.request.Request.{Request}
use Rattle.pt_behaviour.specs.Telling.{Watches, Unwatches}
use Rattle.pt_names.specs.declared.registry.Registry.{Registry}
use Rattle.pt_names.specs.declared.registry.RegistryError.{RegistryError}
use Rattle.pt_names.specs.declared.registry.RegistryError.TheVariants.{Refused, Unwatched, LeftOpen, NoName}

-- nothing has changed
abbrev pub IsUntouched : Registry → DeskState → Registry → DeskState → Type 0
IsUntouched old d new e = (new ≡ old) × (e ≡ d)

-- what the caller is told where the names refuse a process: the monitor that stands still, if it was refused to give it up
abbrev pub unkept_as : RegisterError → Ref → Result Bool Fault → RegistryError
unkept_as f m (Ok was_open) = Refused f
unkept_as f m (Err why) = LeftOpen f m

-- the names refuse the process, and its monitor is given up, or the caller is told that it is not
pub record IsUnkept (n : Name) (p : Pid) (m : Ref) (old : Registry) (d : DeskState) (told : RegistryError) (new : Registry)
    (e : DeskState) : Type 0 where
  pub why : RegisterError
  pub refused : Registers n p m old.names (Err why) new.names
  pub same : new ≡ old
  pub given_up : Result Bool Fault
  pub gives_up : Unwatches old.me m d given_up e
  pub tells : told ≡ unkept_as why m given_up

-- a process that is monitored gets the name, or is refused
abbrev pub KeepsName : Name → Pid → Ref → Registry → DeskState → Result (Unit {0}) RegistryError → Registry → DeskState
    → Type 0
KeepsName n p m old d (Ok done) new e =
    Registers n p m old.names (Ok tt) new.names × (new.me ≡ old.me) × (e ≡ d)
KeepsName n p m old d (Err f) new e = IsUnkept n p m old d f new e

-- the monitor is made, and then the name is kept
pub record RegistersNow (n : Name) (p : Pid) (old : Registry) (d : DeskState) (result : Result (Unit {0}) RegistryError)
    (new : Registry) (e : DeskState) : Type 0 where
  pub free : IsFree n p old.names
  pub monitor : Ref
  pub watching : DeskState
  pub watches : Watches old.me p d (Ok monitor) watching
  pub keeps : KeepsName n p monitor old watching result new e

abbrev pub RegistersWatched : Name → Pid → Registry → DeskState → Result (Unit {0}) RegistryError → Registry
    → DeskState → Type 0
RegistersWatched n p old d (Ok done) new e = RegistersNow n p old d (Ok tt) new e
RegistersWatched n p old d (Err (Refused f)) new e =
    (Checks n p old.names (Err f) × IsUntouched old d new e) ⊎ RegistersNow n p old d (Err (Refused f)) new e
RegistersWatched n p old d (Err (Unwatched f)) new e =
    IsFree n p old.names × (new ≡ old) × Watches old.me p d (Err f) e
RegistersWatched n p old d (Err (LeftOpen f m)) new e = RegistersNow n p old d (Err (LeftOpen f m)) new e
RegistersWatched n p old d (Err NoName) new e = ⊥

-- the number of the request is the place of a name in the list
abbrev pub NamesSender : List Name → Request → Registry → DeskState → Result (Unit {0}) RegistryError → Registry
    → DeskState → Type 0
NamesSender list r old d result new e =
    MatchOption (slice_get list r.asks) ((result ≡ Err NoName) × IsUntouched old d new e)
    (λ n. RegistersWatched n r.from old d result new e)

-- the monitor of the process that has the name is given up, and the name is nobody's; where that is refused nothing has
-- changed
abbrev pub GivesUpName : Name → Registry → DeskState → Result (Option Pid) Fault → Registry → DeskState → Type 0
GivesUpName n old d (Ok (Some p)) new e =
    (h : Holder) × (was_open : Bool) × Unwatches old.me h.monitor d (Ok was_open) e
    × Unregisters n old.names (Some h) new.names × (p ≡ h.pid) × (new.me ≡ old.me)
GivesUpName n old d (Ok None) new e = Unregisters n old.names None new.names × IsUntouched old d new e
GivesUpName n old d (Err f) new e =
    (h : Holder) × (holder_of old.names n ≡ Some h) × Unwatches old.me h.monitor d (Err f) e × (new ≡ old)

-- the name that this process has with this monitor is nobody's; where there is no such name nothing has changed
abbrev pub FreesName : Holder → NamesState → Option Name → NamesState → Type 0
FreesName h old (Some n) new = Unregisters n old (Some h) new
FreesName h old None new = ((n : Name) → holder_of old n ≡ Some h → ⊥) × (new ≡ old)

-- a DOWN frees the name whose monitor it is of, and no other item does anything
abbrev pub HearsNames : Item → NamesState → Option Name → NamesState → Type 0
HearsNames (Down m p reason) old freed new = FreesName (record { pid = p; monitor = m }) old freed new
HearsNames i old freed new = (freed ≡ None) × (new ≡ old)

abbrev pub HearsOf : Item → Registry → Option Name → Registry → Type 0
HearsOf i old freed new = HearsNames i old.names freed new.names × (new.me ≡ old.me)

-- no name has the monitor whose DOWN was heard
abbrev pub IsFreed : Item → Registry → Type 0
IsFreed (Down m p reason) r = (n : Name) → holder_of r.names n ≡ Some (record { pid = p; monitor = m }) → ⊥
IsFreed item r = ⊤
