-- The seats of the desks, while they are made, taken out and brought together. No public clause cites this module.
use Rattle.std.specs.Prelude.{◌≡◌, ℕ, ◌<◌, List, [], ◌∷◌, length, map, slice_index_or, ⊤}
use Rattle.atomic_table.specs.Seated.{TableId}
use Rattle.pt_directory.specs.Views.{up_from}
use Rattle.pt_directory.specs.Seats.{DirectoryState, SeatState, reopened_seat, join_seats, IsAudited}
use Rattle.pt_accounts.specs.DeskLives.{DeskTable}
use Rattle.pt_signal.specs.declared.pid.Pid.{Pid}
use Rattle.pt_signal.specs.declared.config.Config.{Config}
use Rattle.pt_shard.specs.ShardState.{ShardState}
use Rattle.pt_desk.specs.Sight.{Sight, IsSeated, seat_of}
use Rattle.pt_desk.specs.DeskState.{DeskState}

-- a seat, beside its directory
abbrev pub Seated : Type 0
Seated = DirectoryState × SeatState

-- with the table of what was before
abbrev pub sight_of : Seated → DeskTable → Sight
sight_of p t = record { directory = p.0; reads = p.1.reads; before = t; told = p.1.marked }

abbrev pub seat_in : DeskState → Seated
seat_in d = (d.sight.directory, seat_of d.shard d.sight)

abbrev pub all_seats : List DeskState → List Seated
all_seats desks = map seat_in desks

abbrev pub all_tables : List DeskState → List DeskTable
all_tables desks = map (λ (d : DeskState). d.sight.before) desks

-- this is the seat of that desk, and its table
abbrev pub IsSeatOf : ShardState → Seated → DeskTable → Type 0
IsSeatOf s p t = IsSeated s (sight_of p t) × (p.1 ≡ seat_of s (sight_of p t))

-- as many shards as seats and tables, and each has those at its place
abbrev pub AreSeated : List ShardState → List Seated → List DeskTable → Type 0
AreSeated [] [] [] = ⊤
AreSeated (s ∷ shards) (p ∷ seats) (t ∷ tables) = IsSeatOf s p t × AreSeated shards seats tables
AreSeated _ _ _ = ⊥

-- the seats of a directory of this node in which these pids have ended, and nobody has looked
pub record AreFreshSeats (config : Config) (ended : List (Pid × ℕ)) (seats : List Seated) : Type 0 where
  pub directory : DirectoryState
  pub desks : directory.desks ≡ config.desks
  pub slots : directory.slots ≡ config.slots
  pub all : seats ≡ map (λ n. (directory, reopened_seat directory.name ended n)) (up_from 0 config.desks)

-- all are of one directory
abbrev pub AreOf : TableId → List Seated → Type 0
AreOf name [] = ⊤
AreOf name (p ∷ seats) = ((p.0.name ≡ name) × (p.1.name ≡ name)) × AreOf name seats

-- what all these know
abbrev pub together : TableId → List Seated → SeatState
together name [] = record { name = name; homes = []; reads = []; deaths = []; marked = [] }
together name (p ∷ seats) = join_seats p.1 (together name seats)

-- as many seats of one directory, each of which is that of the shard and the table at its place and has read nothing
pub record AreReady (shards : List ShardState) (tables : List DeskTable) (seats : List Seated) : Type 0 where
  pub directory : DirectoryState
  pub count : length seats ≡ length shards
  pub directories : (k : ℕ) (p : Seated) → k < length seats → (slice_index_or seats k p).0 ≡ directory
  pub unread : (k : ℕ) (p : Seated) → k < length seats → (slice_index_or seats k p).1.reads ≡ []
  pub seated : AreSeated shards seats tables

-- they were joined and audited
abbrev pub AreAudited : List Seated → Type 0
AreAudited seats = (name : TableId) × IsAudited (together name seats)
