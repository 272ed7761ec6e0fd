-- What contracts see of a directory and of a seat.
use Rattle.std.specs.Prelude.{◌≡◌, ℕ, ◌&&◌, cond, eqb, nat_lt, ◌<◌, ◌≤◌, List, [], ◌∷◌, ◌++◌, take, drop, filter}
use Rattle.std.specs.Prelude.{Option, MatchOption, All}
use mathlib.Core.Option.{some}
use lib.ListN.{get_elem?}
use Rattle.atomic_table.specs.Seated.{TableId}
use Rattle.pt_signal.specs.declared.pid.Pid.{Pid}
use Rattle.pt_directory.specs.declared.view.Read.{Read}
use Rattle.pt_directory.specs.declared.view.Death.{Death}
use Rattle.pt_directory.specs.declared.view.View.{View}
use Rattle.pt_directory.specs.Views.{new_death, new_read, is_of, deaths_at, last_version, Covers}
use Rattle.pt_directory.specs.Views.{first_deaths, later_deaths}

-- which directory it is: the name is its own, whatever directories there are
pub record DirectoryState : Type 0 where
  pub name : TableId
  pub desks : ℕ
  pub slots : ℕ

-- of which directory it is, whose home it is, what it read, and which deaths it told, oldest first; and those that it
-- had told when it was marked last
pub record SeatState : Type 0 where
  pub name : TableId
  pub homes : List ℕ
  pub reads : List Read
  pub deaths : List Death
  pub marked : List Death

-- a seat with this view
abbrev pub seat_state : TableId → View → SeatState
seat_state name v = record {
  name = name;
  homes = v.homes;
  reads = v.reads;
  deaths = v.deaths;
  marked = v.marked;
}

-- the directory has words for this pid
abbrev pub HasWordsFor : DirectoryState → Pid → Type 0
HasWordsFor d pid = (pid.shard < d.desks) × (pid.slot < d.slots)

-- the home of this desk alone, which has neither read nor told anything
abbrev pub new_seat : TableId → ℕ → SeatState
new_seat name shard = record { name = name; homes = shard ∷ []; reads = []; deaths = []; marked = [] }

-- with one more read
abbrev pub add_read : Read → SeatState → SeatState
add_read r s = record {
  name = s.name;
  homes = s.homes;
  reads = s.reads ++ r ∷ [];
  deaths = s.deaths;
  marked = s.marked;
}

-- with one more death told
abbrev pub add_death : Death → SeatState → SeatState
add_death d s = record {
  name = s.name;
  homes = s.homes;
  reads = s.reads;
  deaths = s.deaths ++ d ∷ [];
  marked = s.marked;
}

-- with all deaths that it told marked
abbrev pub mark_seat : SeatState → SeatState
mark_seat s = record { name = s.name; homes = s.homes; reads = s.reads; deaths = s.deaths; marked = s.deaths }

-- the home of its first desk alone, which has told what it told of that desk, and read nothing
abbrev pub first_seat : SeatState → SeatState
first_seat s = record {
  name = s.name;
  homes = take 1 s.homes;
  reads = [];
  deaths = first_deaths s.homes s.deaths;
  marked = first_deaths s.homes s.deaths;
}

-- what it is without that desk
abbrev pub later_seat : SeatState → SeatState
later_seat s = record {
  name = s.name;
  homes = drop 1 s.homes;
  reads = s.reads;
  deaths = later_deaths s.homes s.deaths;
  marked = s.marked;
}

-- the deaths of a desk, and then that of this pid, if it is the desk's and neither it nor a later one of its slot is
-- among them
abbrev pub tell_one : ℕ → Pid × ℕ → List Death → List Death
tell_one shard x ds =
    cond (eqb x.0.shard shard && nat_lt (last_version (deaths_at shard x.0.slot ds)) x.0.version)
    (ds ++ new_death x.0.shard x.0.slot x.0.version x.1 ∷ []) ds

-- so of each of these pids in turn
abbrev pub tell_each : ℕ → List (Pid × ℕ) → List Death → List Death
tell_each shard [] ds = ds
tell_each shard (x ∷ xs) ds = tell_each shard xs (tell_one shard x ds)

-- the home of this desk alone: of these deaths it has told those of its desk, and then of these pids those of its desk
-- that were not told yet; all this is marked
abbrev pub late_seat : TableId → List Death → List (Pid × ℕ) → ℕ → SeatState
late_seat name deaths given shard = record {
  name = name;
  homes = shard ∷ [];
  reads = [];
  deaths = tell_each shard given (filter (is_of shard) deaths);
  marked = tell_each shard given (filter (is_of shard) deaths);
}

-- with these deaths told and marked
abbrev pub with_deaths : List Death → SeatState → SeatState
with_deaths ds s = record { name = s.name; homes = s.homes; reads = s.reads; deaths = ds; marked = ds }

-- each of these pids has words in the directory; all have one stamp, and no death has a greater one
pub record AreLate (d : DirectoryState) (deaths : List Death) (given : List (Pid × ℕ)) : Type 0 where
  pub stamp : ℕ
  pub each : All (λ x. HasWordsFor d x.0 × (x.1 ≡ stamp)) given
  pub low : (k : ℕ) (x : Death) → get_elem? deaths k ≡ some x → x.stamp ≤ stamp

-- what two seats know together
abbrev pub join_seats : SeatState → SeatState → SeatState
join_seats s t = record {
  name = s.name;
  homes = s.homes ++ t.homes;
  reads = s.reads ++ t.reads;
  deaths = s.deaths ++ t.deaths;
  marked = s.marked;
}

-- the death of this pid
abbrev pub death_of : Pid → ℕ → Death
death_of pid stamp = new_death pid.shard pid.slot pid.version stamp

-- one death is begun, that of this pid
abbrev pub DeathIsBegun : Pid → List Death → Type 0
DeathIsBegun pid [] = ⊥
DeathIsBegun pid (d ∷ []) = (d.shard ≡ pid.shard) × (d.slot ≡ pid.slot) × (d.version ≡ pid.version)
DeathIsBegun pid (d ∷ e ∷ ds) = ⊥

-- one read of the pid's slot is added, and the answer is its stamp; it has one exactly where the version that was
-- found is not below the pid's
abbrev pub Probes : Pid → SeatState → Option ℕ → SeatState → Type 0
Probes pid old answer new =
    (found : ℕ)
    × (new ≡ add_read (new_read pid.shard pid.slot found answer) old)
    × MatchOption answer (found < pid.version) (λ s. pid.version ≤ found)

-- the seat has read, of the pid's slot, a version that is not below the pid's
abbrev pub HasReadOf : Pid → SeatState → Type 0
HasReadOf pid s =
    (k : ℕ) × (r : Read) × (get_elem? s.reads k ≡ some r) × (r.shard ≡ pid.shard) × (r.slot ≡ pid.slot)
    × (pid.version ≤ r.version)

-- the seat has told, of the pid's slot, the death of a version that is not below the pid's
abbrev pub HasToldOf : Pid → SeatState → Type 0
HasToldOf pid s =
    (k : ℕ) × (d : Death) × (get_elem? s.deaths k ≡ some d) × (d.shard ≡ pid.shard) × (d.slot ≡ pid.slot)
    × (pid.version ≤ d.version)

-- each read with a stamp, of a slot whose home the seat is: the version read has died, and neither its death nor that
-- of an earlier version has a greater stamp
abbrev pub IsAudited : SeatState → Type 0
IsAudited s =
    (k : ℕ) (r : Read) → get_elem? s.reads k ≡ some r → (j : ℕ) → get_elem? s.homes j ≡ some r.shard → 0 < r.version
    → MatchOption r.stamp (Unit {0}) (λ t. Covers (deaths_at r.shard r.slot s.deaths) r.version t)

-- those of these pids that are a desk's, with their stamps, as deaths
abbrev pub given_deaths : ℕ → List (Pid × ℕ) → List Death
given_deaths shard [] = []
given_deaths shard (x ∷ xs) = cond (eqb x.0.shard shard) (death_of x.0 x.1 ∷ []) [] ++ given_deaths shard xs

-- the home of this desk alone, which has told that these pids ended, and marked that
abbrev pub reopened_seat : TableId → List (Pid × ℕ) → ℕ → SeatState
reopened_seat name given shard = record {
  name = name;
  homes = shard ∷ [];
  reads = [];
  deaths = given_deaths shard given;
  marked = given_deaths shard given;
}

-- no two of these pids are of one slot
abbrev pub OnePerSlot : List (Pid × ℕ) → Type 0
OnePerSlot xs =
    (i j : ℕ) (x y : Pid × ℕ) → get_elem? xs i ≡ some x → get_elem? xs j ≡ some y → x.0.shard ≡ y.0.shard
    → x.0.slot ≡ y.0.slot → i ≡ j

-- each of these pids has words in such a directory, a version and a stamp that are not 0, and a slot of its own
pub record AreEnded (desks slots : ℕ) (given : List (Pid × ℕ)) : Type 0 where
  pub each : All (λ x. (x.0.shard < desks) × (x.0.slot < slots) × (0 < x.0.version) × (0 < x.1)) given
  pub apart : OnePerSlot given
