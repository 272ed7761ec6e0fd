-- The letters of a desk to itself, which go by their lane. No public clause cites this module.
use Rattle.std.specs.Prelude.{◌≡◌, ℕ, ◌<◌, ◌≤◌, List, [], ◌∷◌, ◌++◌, length, take, slice_index_or, None, Result, Ok, Err}
use Rattle.pt_signal.specs.declared.letter.Letter.{Letter}
use Rattle.pt_carrier.specs.Ends.{OutEnds, InEnds, HasPlaces, looking_from}
use Rattle.pt_carrier.specs.Bypass.{IsEven, GoesBy}
use Rattle.pt_shard.specs.Outbox.{sent_on_some}
use Rattle.pt_shard.specs.declared.stop.Stop.{Stop}
use Rattle.pt_desk.specs.DeskState.{DeskState, posted_to, waits_for}
use Rattle.pt_desk.specs.Turns.{HandlesNext, Stays}

-- what waits in the desk for itself, oldest first
abbrev pub waits_here : DeskState → List Letter
waits_here d = waits_for d d.shard.number

-- the desk once so many of its letters to itself are posted, and these are its ends that send
abbrev pub posting : ℕ → OutEnds → DeskState → DeskState
posting count o d = record d { shard = sent_on_some d.shard.number count d.shard; outs = o }

-- a desk that is alone in its node
pub record IsAlone (d : DeskState) : Type 0 where
  pub desks : d.shard.config.desks ≡ 1
  pub number : d.shard.number ≡ 0
  pub boxes : length d.shard.outbox ≡ 1
  pub posted : length d.outs.posted ≡ 1
  pub into : d.ins.place.number ≡ 0
  pub rings : length d.ins.place.rings ≡ 1

-- with nothing in its hold, and nothing in its lane to itself
pub record IsClear (d : DeskState) : Type 0 where
  pub alone : IsAlone d
  pub free : d.shard.hold ≡ None
  pub even : IsEven d.outs d.ins

-- and the lane has places for all that waits: so many letters
pub record MayGoBy (count : ℕ) (d : DeskState) : Type 0 where
  pub clear : IsClear d
  pub some : 0 < count
  pub all : count ≡ length (waits_here d)
  pub places : HasPlaces d.outs d.shard.number count

-- nothing is in the hold unless a letter was refused
abbrev pub IsClearUnless : Result (Unit {0}) Stop → DeskState → Type 0
IsClearUnless (Ok _) d = IsClear d
IsClearUnless (Err stop) d = IsAlone d

abbrev pub DoesOwn : Letter → DeskState → Result (Unit {0}) Stop → DeskState → Type 0
DoesOwn l old (Ok _) new = HandlesNext l (posting 1 new.outs old) new
DoesOwn l old (Err stop) new = Stays stop (posting 1 new.outs old) new

-- the oldest letter of the desk to itself goes by, and is handled or stays in the hold
pub record HandlesOwn (old : DeskState) (result : Result (Unit {0}) Stop) (new : DeskState) : Type 0 where
  pub letter : Letter
  pub does : DoesOwn letter old result new
  pub between : InEnds
  pub by : GoesBy (letter ∷ []) old.outs old.ins new.outs between
  pub ins : new.ins ≡ looking_from 0 between
  pub rest : List Letter
  pub more : List Letter
  pub first : waits_here old ≡ letter ∷ rest
  pub waits : waits_here new ≡ rest ++ more
  pub clear : IsClearUnless result new

-- so many letters, the oldest that wait for the desk itself, are posted
pub record PostsLeft (count : ℕ) (old new : DeskState) : Type 0 where
  pub kept : new ≡ posting count new.outs old
  pub place : new.outs.place ≡ old.outs.place
  pub capacity : new.outs.capacity ≡ old.outs.capacity
  pub lanes : length new.outs.posted ≡ length old.outs.posted
  pub posted : posted_to new old.shard.number ≡ posted_to old old.shard.number ++ take count (waits_here old)
  pub seen : slice_index_or old.outs.seen old.shard.number 0 ≤ slice_index_or new.outs.seen old.shard.number 0
