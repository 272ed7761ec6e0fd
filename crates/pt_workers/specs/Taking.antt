-- Items that are taken out of a mailbox one after the other, each handed over.
use Rattle.std.specs.Prelude.{◌≡◌, ℕ, zero, suc, ◌<◌, ◌⊎◌, Option, Some, None, Result, Ok, Err}
use Rattle.pt_signal.specs.declared.item.Item.{Item}
use Rattle.pt_signal.specs.declared.item.Pick.{Pick}
use Rattle.pt_signal.specs.declared.pid.Pid.{Pid}
use Rattle.pt_shard.specs.Calls.{Calls, first_match, take_event}
use Rattle.pt_shard.specs.declared.fault.Fault.{Fault}
use Rattle.pt_desk.specs.DeskState.{DeskState, HasSameEnds}

-- what may be done with an item, of the desk and of whom it is handed to, before it and after it
abbrev pub TakeRelation : Type 0 → Type 1
TakeRelation T = T → DeskState → Item → T → DeskState → Type 0

-- the first item that fits is asked for, with that answer
abbrev pub AsksForItem : Pid → Pick → DeskState → Result (Option Item) Fault → DeskState → Type 0
AsksForItem p pick old answer new =
    Calls p (take_event old.shard p pick) (first_match old.shard p pick) old.shard answer new.shard
    × HasSameEnds old new × (new.sight ≡ old.sight)

-- one item is taken and handed over
pub record TakesOne {T : Type 0} (takes : TakeRelation T) (p : Pid) (pick : Pick)
    (old new : DeskState × T) : Type 0 where
  pub item : Item
  -- the desk between the two
  pub taken : DeskState
  pub asks : AsksForItem p pick old.0 (Ok (Some item)) taken
  pub hands : takes old.1 taken item new.1 new.0

-- so many are, one after the other
abbrev pub TakesMany : {T : Type 0} → TakeRelation T → Pid → Pick → ℕ → DeskState × T → DeskState × T → Type 0
TakesMany takes p pick zero old new = new ≡ old
TakesMany {T} takes p pick (suc count) old new =
    (mid : DeskState × T) × TakesMany takes p pick count old mid × TakesOne takes p pick mid new

-- the items up to so many, and then the answer to the call that found none, or was refused
pub record TakesUntil {T : Type 0} (takes : TakeRelation T) (p : Pid) (pick : Pick) (count : ℕ)
    (answer : Result (Option Item) Fault) (old new : DeskState × T) : Type 0 where
  pub mid : DeskState × T
  pub took : TakesMany takes p pick count old mid
  pub asks : AsksForItem p pick mid.0 answer new.0
  pub same : new.1 ≡ mid.1

-- all that fit, at most so many
abbrev pub TakesEach : {T : Type 0} → TakeRelation T → Pid → Pick → ℕ → DeskState × T → Result ℕ Fault → DeskState × T
    → Type 0
TakesEach takes p pick most old (Ok count) new =
    ((count ≡ most) × TakesMany takes p pick most old new)
    ⊎ ((count < most) × TakesUntil takes p pick count (Ok None) old new)
TakesEach takes p pick most old (Err fault) new =
    (count : ℕ) × (count < most) × TakesUntil takes p pick count (Err fault) old new
