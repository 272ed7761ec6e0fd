-- What a desk sees of the ends that the desks of its node told.
use Rattle.std.specs.Prelude.{◌≡◌, ℕ, ◌<◌, ◌≤◌, true, false, List, [], ◌∷◌, ◌++◌, Option, Some, None, ⊤}
use mathlib.Core.Option.{some}
use lib.ListN.{get_elem?}
use Rattle.pt_signal.specs.declared.pid.Pid.{Pid}
use Rattle.pt_events.specs.declared.event.Event.{Event}
use Rattle.pt_events.specs.declared.event.Event.TheVariants.{Born, Refused}
use Rattle.pt_events.specs.declared.event.Stamped.{Stamped}
use Rattle.pt_events.specs.History.{Start, at_start, is_unborn, is_ended}
use Rattle.pt_events.specs.Journal.{events}
use Rattle.pt_directory.specs.declared.view.Read.{Read}
use Rattle.pt_directory.specs.declared.view.Death.{Death}
use Rattle.pt_directory.specs.Seats.{DirectoryState, SeatState, death_of}
use Rattle.pt_accounts.specs.DeskLives.{DeskTable, IsTableOf}
use Rattle.pt_shard.specs.ShardState.{ShardState, ended_in}

-- the directory of its node; what it read there, oldest first; what became of the processes before the journal; and
-- the ends that it had told the directory before the journal
pub record Sight : Type 0 where
  pub directory : DirectoryState
  pub reads : List Read
  pub before : DeskTable
  pub told : List Death

abbrev pub death_by : Option Pid → ℕ → List Death
death_by None n = []
death_by (Some p) n = death_of p n ∷ []

-- the ends that were told before the journal, and then the ends of the journal, oldest first
abbrev pub deaths_in : List Death → Start → List Stamped → List Death
deaths_in before start [] = before
deaths_in before start (s ∷ journal) =
    deaths_in before start journal ++ death_by (ended_in start (events journal) s.event) s.stamp

-- the seat of a desk: it is the home of that desk alone, and has told these ends, each and no other
abbrev pub seat_of : ShardState → Sight → SeatState
seat_of s v = record {
  name = v.directory.name;
  homes = s.number ∷ [];
  reads = v.reads;
  deaths = deaths_in v.told s.start s.journal;
  marked = v.told;
}

-- a read that found the end of p, or of a later process of its slot
pub record HasEndOf (p : Pid) (r : Read) : Type 0 where
  pub shard : r.shard ≡ p.shard
  pub slot : r.slot ≡ p.slot
  pub issued : 0 < p.version
  pub version : p.version ≤ r.version

-- it was seen that p has ended, at a stamp below n
abbrev pub HasSeenEnd : List Read → Pid → ℕ → Type 0
HasSeenEnd reads p n =
    (k : ℕ) × (r : Read) × (t : ℕ) × (get_elem? reads k ≡ some r) × HasEndOf p r × (r.stamp ≡ Some t) × (t < n)

-- a refused call had seen the end of the other, at a lower stamp
abbrev pub IsSeen : List Read → ℕ → Event → Type 0
IsSeen reads n (Refused a b) = HasSeenEnd reads b n
IsSeen reads n _ = ⊤

abbrev pub AllSeen : List Read → List Stamped → Type 0
AllSeen reads [] = ⊤
AllSeen reads (s ∷ journal) = IsSeen reads s.stamp s.event × AllSeen reads journal

-- the directory has words for the slot of a process that is born
abbrev pub HasWordsAt : ℕ → Event → Type 0
HasWordsAt slots (Born p parent link) = p.slot < slots
HasWordsAt slots _ = ⊤

abbrev pub AllHaveWords : ℕ → List Stamped → Type 0
AllHaveWords slots [] = ⊤
AllHaveWords slots (s ∷ journal) = HasWordsAt slots s.event × AllHaveWords slots journal

-- whoever was born before the journal is of a slot of the desk and has a version, and those before it in its slot have
-- ended
pub record WasInTurn (start : Start) (slots : ℕ) (p : Pid) : Type 0 where
  pub slot : p.slot < slots
  pub version : 0 < p.version
  pub before : (v : ℕ) → 0 < v → v < p.version → is_ended (at_start start (record p { version = v })) ≡ true

-- the ends that desk d told before its journal, which began at this stamp. Each is of a process of the desk that had
-- ended. If a process of the desk had ended, its end was told, or a later one of its slot
pub record AreToldBefore (start : Start) (low d : ℕ) (told : List Death) : Type 0 where
  pub each : (k : ℕ) (x : Death) → get_elem? told k ≡ some x
      → (x.shard ≡ d) × (x.stamp ≤ low)
      × (is_ended (at_start start (record { shard = x.shard; slot = x.slot; version = x.version })) ≡ true)
  pub all : (p : Pid) → p.shard ≡ d → is_ended (at_start start p) ≡ true
      → (k : ℕ) × (x : Death) × (get_elem? told k ≡ some x) × (x.shard ≡ p.shard) × (x.slot ≡ p.slot)
      × (p.version ≤ x.version)

-- what holds of the sight of every desk
pub record IsSeated (s : ShardState) (v : Sight) : Type 0 where
  pub desks : v.directory.desks ≡ s.config.desks
  pub slots : v.directory.slots ≡ s.config.slots
  -- it reads of desks of the node alone
  pub near : (k : ℕ) (r : Read) → get_elem? v.reads k ≡ some r → r.shard < s.config.desks
  pub seen : AllSeen v.reads s.journal
  pub words : AllHaveWords s.config.slots s.journal
  -- what it knows of those before its journal is what they were, and nothing of the journal
  pub told : IsTableOf s.start s.number [] v.before
  pub unread : v.before.read ≡ 0
  pub old : AreToldBefore s.start s.config.start s.number v.told
  pub turns : (p : Pid) → is_unborn (at_start s.start p) ≡ false → WasInTurn s.start s.config.slots p

-- the sight later: of the same directory, and what it read stands where it stood
pub record SeesOn (old new : Sight) : Type 0 where
  pub directory : new.directory ≡ old.directory
  pub reads : (k : ℕ) (r : Read) → get_elem? old.reads k ≡ some r → get_elem? new.reads k ≡ some r
