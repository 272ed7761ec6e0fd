-- What each call of a desk answers, and what it leaves.
use Rattle.std.specs.Prelude.{◌≡◌, ℕ, ◌+◌, ◌<◌, ◌≤◌, Bool, true, false, cond, ◌||◌, max, is_some, Option, Some, None}
use Rattle.std.specs.Prelude.{IsSome, Result, Ok, Err}
use Rattle.std.specs.Bool.{then_some}
use Rattle.std.specs.List.{find}
use Rattle.std.specs.Map.{lookup}
use Rattle.std.specs.Option.{option_map}
use Rattle.pt_signal.specs.Values.{same_pid, same_ref, fits}
use Rattle.pt_signal.specs.Process.{held}
use Rattle.pt_signal.specs.declared.pid.Pid.{Pid}
use Rattle.pt_signal.specs.declared.ids.Ref.{Ref}
use Rattle.pt_signal.specs.declared.ids.Ids.{Ids}
use Rattle.pt_signal.specs.declared.ids.LinkId.{LinkId}
use Rattle.pt_signal.specs.declared.item.Item.{Item}
use Rattle.pt_signal.specs.declared.item.Pick.{Pick}
use Rattle.pt_signal.specs.declared.signal.Signal.TheVariants.{Link, Unlink, Monitor, Demonitor}
use Rattle.pt_events.specs.declared.event.Event.{Event}
use Rattle.pt_events.specs.declared.event.Event.TheVariants.{Born, Said, Took, Refused}
use Rattle.pt_signal.specs.declared.config.TheConstants.{MAX_STAMP}
use Rattle.pt_shard.specs.declared.fault.Fault.{Fault}
use Rattle.pt_shard.specs.declared.fault.Fault.TheVariants.{Full, Memory, Worn, Gone, Myself, NoProc}
use Rattle.pt_shard.specs.ShardState.{ShardState, lives, state_in, shard_after, written}

-- one more event can be stamped
abbrev pub CanWrite : ShardState → Type 0
CanWrite d = d.clock < MAX_STAMP

abbrev pub IsWorn : ShardState → Type 0
IsWorn d = MAX_STAMP ≤ d.clock

abbrev pub CanWriteIf : Option Event → ShardState → Type 0
CanWriteIf None d = Unit {0}
CanWriteIf (Some e) d = CanWrite d

abbrev pub after_if : Option Event → ShardState → ShardState
after_if None d = d
after_if (Some e) d = shard_after e d

-- a call of the process p, which answers so and writes that event, if any
abbrev pub Calls : {A : Type 0} → Pid → Option Event → A → ShardState → Result A Fault → ShardState → Type 0
Calls p event answer old (Ok a) new =
    (lives old p ≡ true) × CanWriteIf event old × (a ≡ answer) × (new ≡ after_if event old)
Calls p event answer old (Err Gone) new = (lives old p ≡ false) × (new ≡ old)
Calls p event answer old (Err Worn) new = (lives old p ≡ true) × IsSome event × IsWorn old × (new ≡ old)
Calls p event answer old (Err Memory) new = (lives old p ≡ true) × IsSome event × CanWrite old × (new ≡ old)
Calls p event answer old (Err Full) new = ⊥
Calls p event answer old (Err Myself) new = ⊥
Calls p event answer old (Err NoProc) new = ⊥

-- the events of the calls ------------------------------------------------------------

-- the id of a link that is made now
abbrev pub new_link : ShardState → LinkId
new_link d = record { desk = d.number; number = d.clock + 1 }

-- the reference of a monitor that is made now
abbrev pub new_ref : ShardState → Ref
new_ref d = record { desk = d.number; number = d.clock + 1 }

abbrev pub held_by : ShardState → Pid → Pid → Option Ids
held_by d p q = held (state_in d p).links q

-- none where p is the target, or holds a link with it
abbrev pub link_event : ShardState → Pid → Pid → Option Event
link_event d p to = cond (same_pid p to || is_some (held_by d p to)) None (Some (Said p to (Link (new_link d))))

-- none where p holds no link with the target
abbrev pub unlink_event : ShardState → Pid → Pid → Option Event
unlink_event d p to = option_map (λ ids. Said p to (Unlink ids)) (held_by d p to)

-- the item that a receive takes
abbrev pub first_match : ShardState → Pid → Pick → Option Item
first_match d p k = find (fits k) (state_in d p).waiting

abbrev pub take_event : ShardState → Pid → Pick → Option Event
take_event d p k = option_map (Took p k) (first_match d p k)

abbrev pub if_asked : Bool → Option Event → Option Event
if_asked true event = event
if_asked false event = None

abbrev pub demonitor_at : Option Pid → ShardState → Pid → Ref → Bool → Option Event
demonitor_at (Some t) d w m flush = Some (Said w t (Demonitor m))
demonitor_at None d w m flush = if_asked flush (take_event d w (Pick.DownOf m))

-- an open monitor is given up; of a closed one a DOWN that waits is taken, where that was asked
abbrev pub demonitor_event : ShardState → Pid → Ref → Bool → Option Event
demonitor_event d w m flush = demonitor_at (lookup (same_ref m) (state_in d w).watching) d w m flush

-- a monitor of oneself is refused
abbrev pub Monitors : Pid → Pid → ShardState → Result Ref Fault → ShardState → Type 0
Monitors w t old (Ok m) new =
    (same_pid w t ≡ false) × Calls w (Some (Said w t (Monitor (new_ref old)))) (new_ref old) old (Ok m) new
Monitors w t old (Err Gone) new = (lives old w ≡ false) × (new ≡ old)
Monitors w t old (Err Myself) new = (lives old w ≡ true) × (same_pid w t ≡ true) × (new ≡ old)
Monitors w t old (Err Worn) new = (lives old w ≡ true) × (same_pid w t ≡ false) × IsWorn old × (new ≡ old)
Monitors w t old (Err Memory) new = (lives old w ≡ true) × (same_pid w t ≡ false) × CanWrite old × (new ≡ old)
Monitors w t old (Err Full) new = ⊥
Monitors w t old (Err NoProc) new = ⊥

-- births ------------------------------------------------------------------------------

-- which slot is vacant afterwards is left open
abbrev pub Bears : Option Pid → Option LinkId → ShardState → Result Pid Fault → ShardState → Type 0
Bears parent link old (Ok p) new =
    CanWrite old × (old.vacant ≡ Some p) × (new ≡ record (shard_after (Born p parent link) old) { vacant = new.vacant })
Bears parent link old (Err Worn) new = IsWorn old × (new ≡ old)
Bears parent link old (Err Full) new = CanWrite old × (old.vacant ≡ None) × (new ≡ old)
Bears parent link old (Err Memory) new = CanWrite old × IsSome old.vacant × (new ≡ old)
Bears parent link old (Err Gone) new = ⊥
Bears parent link old (Err Myself) new = ⊥
Bears parent link old (Err NoProc) new = ⊥

abbrev pub birth_link : Bool → ShardState → Option LinkId
birth_link linked d = then_some linked (new_link d)

abbrev pub BearsChild : Pid → Bool → ShardState → Result Pid Fault → ShardState → Type 0
BearsChild parent linked old (Ok p) new =
    (lives old parent ≡ true) × Bears (Some parent) (birth_link linked old) old (Ok p) new
BearsChild parent linked old (Err Gone) new = (lives old parent ≡ false) × (new ≡ old)
BearsChild parent linked old (Err Worn) new = (lives old parent ≡ true) × IsWorn old × (new ≡ old)
BearsChild parent linked old (Err Full) new =
    (lives old parent ≡ true) × CanWrite old × (old.vacant ≡ None) × (new ≡ old)
BearsChild parent linked old (Err Memory) new =
    (lives old parent ≡ true) × CanWrite old × IsSome old.vacant × (new ≡ old)
BearsChild parent linked old (Err Myself) new = ⊥
BearsChild parent linked old (Err NoProc) new = ⊥

-- refused calls -------------------------------------------------------------------------

-- a call of p to t, of whose end at stamp n the desk has seen, is refused; the desk notes it, at a later stamp
abbrev pub Refuses : Pid → Pid → ℕ → ShardState → Fault → ShardState → Type 0
Refuses p t n old NoProc new = (max old.clock n < MAX_STAMP) × (new ≡ written (max old.clock n + 1) (Refused p t) old)
Refuses p t n old Worn new = (MAX_STAMP ≤ max old.clock n) × (new ≡ old)
Refuses p t n old Memory new = (max old.clock n < MAX_STAMP) × (new ≡ old)
Refuses p t n old _ new = ⊥
