-- The slots of a desk, read by pids. No public clause cites this module.
use Rattle.std.specs.Prelude.{◌≡◌, ℕ, ◌+◌, ◌<◌, ⊤, ◌==◌, ◌&&◌, Bool, cond, Option, Some, None, IfSome, IsSome}
use Rattle.std.specs.Option.{option_map}
use Rattle.pt_signal.specs.declared.pid.Pid.{Pid}
use Rattle.pt_signal.specs.declared.ids.LinkId.{LinkId}
use Rattle.pt_signal.specs.declared.reason.Reason.{Reason}
use Rattle.pt_signal.specs.Process.{ProcessState}
use Rattle.pt_slots.specs.declared.Key.{Key}
use Rattle.pt_slots.specs.State.{SlotsState, at, issued, next_key, with_value}
use Rattle.pt_slots.specs.Offers.{OffersTheFree}
use Rattle.pt_process.specs.ProcessView.{ProcessView, Owing, owing_of}
use Rattle.pt_shard.specs.Reading.{read_of}

abbrev pub Table : Type 0
Table = SlotsState ProcessView

pub record ProcessesState : Type 0 where
  -- the number of the desk
  pub desk : ℕ
  pub table : Table

-- what the slots of the desk have for p
abbrev pub process_at : ℕ → Table → Pid → Option (Pid × ProcessState)
process_at desk table p = cond (p.shard == desk) (read_of (at table p.slot p.version)) None

-- the process p, if it stands in the slots of the desk
abbrev pub living_at : ℕ → Table → Pid → Option ProcessView
living_at desk table p = cond (p.shard == desk) (at table p.slot p.version) None

-- the key of a pid
abbrev pub key_at : Pid → Key
key_at p = record { slot = p.slot; version = p.version }

-- the processes, of which p is now v
abbrev pub with_process : ProcessesState → Pid → ProcessView → ProcessesState
with_process s p v = record s { table = with_value s.table (key_at p) v }

-- the pid of a key of the desk
abbrev pub pid_of_key : ℕ → Key → Pid
pid_of_key desk key = record { shard = desk; slot = key.slot; version = key.version }

-- the pid that the next birth has
abbrev pub vacant_at : ℕ → Table → Option Pid
vacant_at desk table = option_map (pid_of_key desk) (next_key table)

-- the state of a live process, changed by f, which is told its pid
abbrev pub changed : (Pid → ProcessState → ProcessState) → Option (Pid × ProcessState) → Option (Pid × ProcessState)
changed f None = None
changed f (Some r) = Some (r.0, f r.0 r.1)

-- the slot and version are those of p
abbrev pub is_place_of : Pid → ℕ → ℕ → Bool
is_place_of p slot version = (p.slot == slot) && (p.version == version)

-- what stands in the place of p
abbrev pub in_place : Table → Pid → Option (Pid × ProcessState)
in_place table p = read_of (at table p.slot p.version)

pub record SameSettings (old new : Table) : Type 0 where
  pub issues : (slot : ℕ) → issued new slot ≡ issued old slot
  pub capacity : new.capacity ≡ old.capacity
  pub top_version : new.top_version ≡ old.top_version

-- v stands in the place of p, and all else is as before
pub record Puts (p : Pid) (v : Option (Pid × ProcessState)) (old new : Table) : Type 0 where
  pub live : (slot version : ℕ)
      → read_of (at new slot version) ≡ cond (is_place_of p slot version) v (read_of (at old slot version))
  pub settings : SameSettings old new

-- the state of p is changed by f, and which slot is vacant is not
pub record Changes (p : Pid) (f : Pid → ProcessState → ProcessState) (old new : Table) : Type 0 where
  pub puts : Puts p (changed f (in_place old p)) old new
  pub next : next_key new ≡ next_key old

-- no process differs
pub record IsSameTable (old new : Table) : Type 0 where
  pub live : (slot version : ℕ) → read_of (at new slot version) ≡ read_of (at old slot version)
  pub settings : SameSettings old new
  pub next : next_key new ≡ next_key old

-- the process in the place of p takes one more link without memory
abbrev pub HasLinkRoom : Pid → Table → Type 0
HasLinkRoom p table = IfSome (at table p.slot p.version) (λ r. 0 < r.room)

abbrev pub HasRoomFor : Option LinkId → Pid → Table → Type 0
HasRoomFor None p table = ⊤
HasRoomFor (Some i) p table = HasLinkRoom p table

-- the process p was taken out, and owes that at its end
pub record Ends (p : Pid) (reason : Reason) (owing : Owing) (old new : Table) : Type 0 where
  pub owes : IfSome (in_place old p) (λ r. owing ≡ owing_of r.0 r.1 reason)
  pub lived : IsSome (in_place old p)
  pub puts : Puts p None old new
  pub next : next_key new ≡ cond (p.version == old.top_version) (next_key old) (Some (record {
    slot = p.slot;
    version = p.version + 1;
  }))
  pub offers : OffersTheFree new
