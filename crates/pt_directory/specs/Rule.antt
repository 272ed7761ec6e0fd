-- The rule of the words and seats, and what each step tells. No public clause cites this module.
use Rattle.std.specs.Prelude.{◌≡◌, ℕ, ◌+◌, ◌*◌, ◌<◌, ◌≤◌, List, [], ◌++◌, length, take, drop, slice_index, None}
use Rattle.std.specs.Prelude.{MatchOption}
use mathlib.Core.Option.{some}
use lib.ListN.{get_elem?}
use Rattle.atomic_table.specs.Table.{State, Me, Step}
use Rattle.pt_directory.specs.declared.view.Shape.{Shape}
use Rattle.pt_directory.specs.declared.view.Read.{Read}
use Rattle.pt_directory.specs.declared.view.Death.{Death}
use Rattle.pt_directory.specs.declared.view.View.{View}
use Rattle.pt_directory.specs.Views.{new_death, new_read, deaths_at, last_version, last_stamp, Rises, HasDeath, Covers}
use Rattle.pt_directory.specs.Views.{IsHomeOf, homes_of, fresh_view, up_from, with_read, with_stamp, with_begun}
use Rattle.pt_directory.specs.Views.{finished_view, marked_view, first_deaths, later_deaths}

-- where a slot's version word stands: the greatest version of its pids that has ended
abbrev pub version_word : ℕ → ℕ → ℕ → ℕ
version_word slots shard slot = 2 * (shard * slots + slot)

-- where its death word stands: the stamp of its latest death
abbrev pub death_word : ℕ → ℕ → ℕ → ℕ
death_word slots shard slot = 2 * (shard * slots + slot) + 1

-- a slot's words say what its deaths say: those that are told whole, and then at most one that is begun
pub record IsSlotKept (words : List ℕ) (slots shard slot : ℕ) (done pending : List Death) : Type 0 where
  pub version : slice_index words (version_word slots shard slot) ≡ last_version done
  pub death : slice_index words (death_word slots shard slot) ≡ last_stamp (done ++ pending)
  pub rises : Rises (done ++ pending)
  pub one : length pending ≤ 1

-- a read of a slot is backed by its deaths that are told whole, and is not ahead of its words
pub record IsReadKept (shape : Shape) (words : List ℕ) (done : List Death) (r : Read) : Type 0 where
  pub shard_in : r.shard < shape.desks
  pub slot_in : r.slot < shape.slots
  pub version : r.version ≤ slice_index words (version_word shape.slots r.shard r.slot)
  pub ended : 0 < r.version → (t : ℕ) × HasDeath done r.version t
  pub stamp : MatchOption r.stamp (Unit {0})
      (λ s. (s ≤ slice_index words (death_word shape.slots r.shard r.slot))
      × (0 < r.version → HasDeath done r.version s))

-- a view knows all deaths of the desks whose home it is and of no other desk, and each of its reads is kept
pub record IsViewKept (shape : Shape) (words : List ℕ) (done pending : ℕ → ℕ → List Death) (v : View) : Type 0 where
  pub home : (shard slot : ℕ) → IsHomeOf shard v
      → (deaths_at shard slot v.deaths ≡ done shard slot) × (deaths_at shard slot v.begun ≡ pending shard slot)
  pub deaths : (k : ℕ) (d : Death) → get_elem? v.deaths k ≡ some d → IsHomeOf d.shard v
  pub begun : (k : ℕ) (d : Death) → get_elem? v.begun k ≡ some d → IsHomeOf d.shard v
  pub reads : (k : ℕ) (r : Read) → get_elem? v.reads k ≡ some r → IsReadKept shape words (done r.shard r.slot) r

-- each desk has at most one home
abbrev pub Once : List View → Type 0
Once views = (shard : ℕ) → homes_of shard views ≤ 1

-- there are deaths of each slot, told whole and begun, with which all words and all views agree
pub record IsKept (shape : Shape) (words : List ℕ) (views : List View) : Type 0 where
  pub done : ℕ → ℕ → List Death
  pub pending : ℕ → ℕ → List Death
  pub sized : length words ≡ 2 * (shape.desks * shape.slots)
  pub slots : (shard slot : ℕ) → shard < shape.desks → slot < shape.slots
      → IsSlotKept words shape.slots shard slot (done shard slot) (pending shard slot)
  pub once : Once views
  pub each : (i : ℕ) (v : View) → get_elem? views i ≡ some v → IsViewKept shape words done pending v

-- the rule
abbrev pub Ruled : Shape → State (Unit {0}) View → Type 0
Ruled shape s = IsKept shape s.words s.views

-- the first view is the home of all desks
abbrev pub first_view : Shape → View
first_view shape = fresh_view (up_from 0 shape.desks)

-- what a step knows of its seat: the view, and that no slot is held
abbrev pub SeatKnows : Type 0
SeatKnows = Me (Unit {0}) View

-- a version word was read; it is not below what this seat read there or told of there before
abbrev pub LoadsVersion : ℕ → ℕ → SeatKnows → ℕ → SeatKnows → Type 0
LoadsVersion shard slot me n me' =
    (me' ≡ (with_read (new_read shard slot n None) me.0, me.1))
    × ((k : ℕ) (r : Read) → get_elem? me.0.reads k ≡ some r → r.shard ≡ shard → r.slot ≡ slot → r.version ≤ n)
    × ((k : ℕ) (d : Death) → get_elem? me.0.deaths k ≡ some d → d.shard ≡ shard → d.slot ≡ slot → d.version ≤ n)

-- the same, as a step tells it
abbrev pub VersionLoaded : ℕ → ℕ → Step (Unit {0}) → SeatKnows → ℕ → SeatKnows → Type 0
VersionLoaded shard slot st = LoadsVersion shard slot

-- a death word was read, and the stamp joins the last read
abbrev pub DeathLoaded : Step (Unit {0}) → SeatKnows → ℕ → SeatKnows → Type 0
DeathLoaded st me n me' = me' ≡ (with_stamp n me.0, me.1)

-- a death word was stored: the death is begun
abbrev pub DeathStored : ℕ → ℕ → ℕ → Step (Unit {0}) → SeatKnows → ℕ → SeatKnows → Type 0
DeathStored shard slot version st me n me' = me' ≡ (with_begun (new_death shard slot version n) me.0, me.1)

-- a version word was stored: the death is told whole
abbrev pub VersionStored : Step (Unit {0}) → SeatKnows → ℕ → SeatKnows → Type 0
VersionStored st me n me' = me' ≡ (finished_view me.0, me.1)

-- a version word was read; of a slot whose home this is, it is the version of the last death told
abbrev pub ToldLoaded : ℕ → ℕ → Step (Unit {0}) → SeatKnows → ℕ → SeatKnows → Type 0
ToldLoaded shard slot st me n me' =
    (me' ≡ me) × (IsHomeOf shard me.0 → n ≡ last_version (deaths_at shard slot me.0.deaths))

-- a word was read, and the deaths that this view told are marked
abbrev pub Marked : Step (Unit {0}) → SeatKnows → ℕ → SeatKnows → Type 0
Marked st me n me' = me' ≡ (marked_view me.0, me.1)

-- what a seat is made with: the first home of the view that it is split off from
abbrev pub one_home : View → View
one_home v = fresh_view (take 1 v.homes)

-- what that view keeps
abbrev pub other_homes : View → View
other_homes v = record {
  homes = drop 1 v.homes;
  reads = v.reads;
  deaths = v.deaths;
  begun = v.begun;
  marked = v.marked;
}

-- the first home of a view, with what it told of that desk, which is marked
abbrev pub renewed_home : View → View
renewed_home v = record {
  homes = take 1 v.homes;
  reads = [];
  deaths = first_deaths v.homes v.deaths;
  begun = [];
  marked = first_deaths v.homes v.deaths;
}

-- what that view keeps
abbrev pub later_homes : View → View
later_homes v = record {
  homes = drop 1 v.homes;
  reads = v.reads;
  deaths = later_deaths v.homes v.deaths;
  begun = [];
  marked = v.marked;
}

-- each read with a stamp, of a slot whose home this is: the version read has died, and neither its death nor that of
-- an earlier version has a greater stamp
abbrev pub IsBacked : View → Type 0
IsBacked v =
    (k : ℕ) (r : Read) → get_elem? v.reads k ≡ some r → IsHomeOf r.shard v → 0 < r.version
    → MatchOption r.stamp (Unit {0}) (λ s. Covers (deaths_at r.shard r.slot v.deaths) r.version s)

-- a word was read, and the rule told of this view
abbrev pub Audited : Step (Unit {0}) → SeatKnows → ℕ → SeatKnows → Type 0
Audited st me n me' = (me' ≡ me) × IsBacked me.0
