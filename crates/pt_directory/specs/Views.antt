-- What a seat knows: whose home it is, what it read, and which deaths it told.
use Rattle.std.specs.Prelude.{◌≡◌, ℕ, zero, suc, ◌+◌, ◌<◌, ◌≤◌, Bool, true, false, ◌&&◌, cond, eqb}
use Rattle.std.specs.Prelude.{List, [], ◌∷◌, ◌++◌, filter, Option, Some}
use mathlib.Core.Option.{some}
use lib.ListN.{get_elem?}
use Rattle.pt_directory.specs.declared.view.Read.{Read}
use Rattle.pt_directory.specs.declared.view.Death.{Death}
use Rattle.pt_directory.specs.declared.view.View.{View}

-- the death of a pid, by the pid's three numbers
abbrev pub new_death : ℕ → ℕ → ℕ → ℕ → Death
new_death shard slot version stamp = record { shard = shard; slot = slot; version = version; stamp = stamp }

-- a read of a slot, which found this version; the stamp is there where the death word was read too
abbrev pub new_read : ℕ → ℕ → ℕ → Option ℕ → Read
new_read shard slot version stamp = record { shard = shard; slot = slot; version = version; stamp = stamp }

-- is it the death of a pid of this slot?
abbrev pub is_at : ℕ → ℕ → Death → Bool
is_at shard slot d = eqb d.shard shard && eqb d.slot slot

-- the deaths of one slot's pids, in order
abbrev pub deaths_at : ℕ → ℕ → List Death → List Death
deaths_at shard slot ds = filter (is_at shard slot) ds

-- the version of the last death, 0 for none
abbrev pub last_version : List Death → ℕ
last_version [] = 0
last_version (d ∷ []) = d.version
last_version (d ∷ e ∷ ds) = last_version (e ∷ ds)

-- the stamp of the last death, 0 for none
abbrev pub last_stamp : List Death → ℕ
last_stamp [] = 0
last_stamp (d ∷ []) = d.stamp
last_stamp (d ∷ e ∷ ds) = last_stamp (e ∷ ds)

-- each death has a greater version than the one before, and no lower stamp
abbrev pub Rises : List Death → Type 0
Rises [] = Unit {0}
Rises (d ∷ []) = Unit {0}
Rises (d ∷ e ∷ ds) = (d.version < e.version) × (d.stamp ≤ e.stamp) × Rises (e ∷ ds)

-- among the deaths is one of this version, with at most this stamp
abbrev pub HasDeath : List Death → ℕ → ℕ → Type 0
HasDeath ds version stamp =
    (k : ℕ) × (d : Death) × (get_elem? ds k ≡ some d) × (d.version ≡ version) × (d.stamp ≤ stamp)

-- this version has died, and neither its death nor an earlier version's has a greater stamp
pub record Covers (ds : List Death) (version stamp : ℕ) : Type 0 where
  pub died : HasDeath ds version stamp
  pub latest : (k : ℕ) (d : Death) → get_elem? ds k ≡ some d → d.version ≤ version → d.stamp ≤ stamp

-- this desk is among the view's homes
abbrev pub IsHomeOf : ℕ → View → Type 0
IsHomeOf shard v = (k : ℕ) × (get_elem? v.homes k ≡ some shard)

-- how often a number stands in a list
abbrev pub times_among : ℕ → List ℕ → ℕ
times_among x [] = 0
times_among x (y ∷ ys) = cond (eqb y x) 1 0 + times_among x ys

-- how many views are a desk's home
abbrev pub homes_of : ℕ → List View → ℕ
homes_of shard [] = 0
homes_of shard (v ∷ vs) = times_among shard v.homes + homes_of shard vs

-- a view that knows no more than whose home it is
abbrev pub fresh_view : List ℕ → View
fresh_view homes = record { homes = homes; reads = []; deaths = []; begun = []; marked = [] }

-- so many numbers, from this one on
abbrev pub up_from : ℕ → ℕ → List ℕ
up_from a zero = []
up_from a (suc n) = a ∷ up_from (suc a) n

-- with one more read
abbrev pub with_read : Read → View → View
with_read r v = record {
  homes = v.homes;
  reads = v.reads ++ r ∷ [];
  deaths = v.deaths;
  begun = v.begun;
  marked = v.marked;
}

-- the reads, with this stamp in the last
abbrev pub stamp_last : ℕ → List Read → List Read
stamp_last s [] = []
stamp_last s (r ∷ []) = new_read r.shard r.slot r.version (Some s) ∷ []
stamp_last s (r ∷ q ∷ rs) = r ∷ stamp_last s (q ∷ rs)

-- with this stamp in the last read
abbrev pub with_stamp : ℕ → View → View
with_stamp s v = record {
  homes = v.homes;
  reads = stamp_last s v.reads;
  deaths = v.deaths;
  begun = v.begun;
  marked = v.marked;
}

-- with this death begun: its stamp is told, its version not yet
abbrev pub with_begun : Death → View → View
with_begun d v = record { homes = v.homes; reads = v.reads; deaths = v.deaths; begun = d ∷ []; marked = v.marked }

-- with the death that was begun told whole
abbrev pub finished_view : View → View
finished_view v = record {
  homes = v.homes;
  reads = v.reads;
  deaths = v.deaths ++ v.begun;
  begun = [];
  marked = v.marked;
}

-- with all deaths that it told marked
abbrev pub marked_view : View → View
marked_view v = record { homes = v.homes; reads = v.reads; deaths = v.deaths; begun = v.begun; marked = v.deaths }

-- what two views know together
abbrev pub joined_views : View → View → View
joined_views v w = record {
  homes = v.homes ++ w.homes;
  reads = v.reads ++ w.reads;
  deaths = v.deaths ++ w.deaths;
  begun = v.begun ++ w.begun;
  marked = v.marked;
}

-- is it the death of a pid of this desk?
abbrev pub is_of : ℕ → Death → Bool
is_of shard d = eqb d.shard shard

abbrev pub is_not_of : ℕ → Death → Bool
is_not_of shard d = cond (eqb d.shard shard) false true

-- the deaths of the pids of the first of these desks
abbrev pub first_deaths : List ℕ → List Death → List Death
first_deaths [] ds = []
first_deaths (h ∷ hs) ds = filter (is_of h) ds

-- all others
abbrev pub later_deaths : List ℕ → List Death → List Death
later_deaths [] ds = ds
later_deaths (h ∷ hs) ds = filter (is_not_of h) ds

-- this read is the last
abbrev pub LastRead : Read → List Read → Type 0
LastRead r rs = (before : List Read) × (rs ≡ before ++ r ∷ [])
