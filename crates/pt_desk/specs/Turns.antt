-- What a turn does: first it posts, then it handles.
use Rattle.std.specs.Prelude.{◌≡◌, ℕ, ◌-◌, ◌^◌, ◌<◌, ◌≤◌, ◌⊎◌, Bool, true, false, List, [], ◌∷◌, length, max, min}
use Rattle.std.specs.Prelude.{Option, Some, None, Result, Ok, Err}
use Rattle.pt_signal.specs.declared.config.TheConstants.{MAX_STAMP}
use Rattle.pt_signal.specs.declared.letter.Letter.{Letter}
use Rattle.pt_carrier.specs.Ends.{Collects, IsFirstFromCursor, ShowNone, looking_from}
use Rattle.pt_shard.specs.ShardState.{handled}
use Rattle.pt_shard.specs.Outbox.{holding}
use Rattle.pt_shard.specs.declared.stop.Stop.{Stop}
use Rattle.pt_shard.specs.declared.stop.Stop.TheVariants.{Memory, Worn}
use Rattle.pt_desk.specs.declared.turned.Turned.{Turned}
use Rattle.pt_desk.specs.DeskState.{DeskState}
use Rattle.pt_desk.specs.Posting.{Posts, total}

-- the next turn looks at the lane from desk k before the others
abbrev pub looking_first : ℕ → DeskState → DeskState
looking_first k d = record d { ins = looking_from k d.ins }

-- the letter is taken out of its lane and stands in the hold
pub record TakesFromLane (l : Letter) (old new : DeskState) : Type 0 where
  pub free : old.shard.hold ≡ None
  pub shard : new.shard ≡ holding (Some l) old.shard
  pub outs : new.outs ≡ old.outs
  pub sight : new.sight ≡ old.sight
  pub place : new.ins.place ≡ old.ins.place
  pub collects : Collects old.ins new.ins l.from.shard l
  pub first : IsFirstFromCursor old.ins new.ins l.from.shard

-- the next letter stands in the hold: it stood there, or none did and it was collected
abbrev pub Fetches : Letter → DeskState → DeskState → Type 0
Fetches l old new = ((old.shard.hold ≡ Some l) × (new ≡ old)) ⊎ TakesFromLane l old new

-- none is in the hold, and no lane shows a letter
pub record FindsNone (old new : DeskState) : Type 0 where
  pub free : old.shard.hold ≡ None
  pub shard : new.shard ≡ old.shard
  pub outs : new.outs ≡ old.outs
  pub sight : new.sight ≡ old.sight
  pub place : new.ins.place ≡ old.ins.place
  pub cursor : new.ins.cursor ≡ old.ins.cursor
  pub collected : new.ins.collected ≡ old.ins.collected
  pub none : ShowNone old.ins new.ins 0 (length old.ins.place.rings)

-- the letter in the hold is handled, and the hold is free
abbrev pub handled_held : Letter → DeskState → DeskState
handled_held l d = record d { shard = handled l (holding None d.shard) }

-- the next letter is handled
pub record HandlesNext (l : Letter) (old new : DeskState) : Type 0 where
  pub fetched : DeskState
  pub fetches : Fetches l old fetched
  pub within : max fetched.shard.clock l.stamp < MAX_STAMP
  pub after : new ≡ handled_held l fetched

-- the next letter is in the hold and stays there: its stamp would pass the limit of clocks, or there was no memory
abbrev pub Stays : Stop → DeskState → DeskState → Type 0
Stays Worn old new = (l : Letter) × Fetches l old new × (MAX_STAMP ≤ max new.shard.clock l.stamp)
Stays Memory old new = (l : Letter) × Fetches l old new × (max new.shard.clock l.stamp < MAX_STAMP)

-- one more letter is handled, or there is none, or it is refused
abbrev pub HandlesAtMostOne : DeskState → Result Bool Stop → DeskState → Type 0
HandlesAtMostOne old (Ok true) new = (l : Letter) × HandlesNext l old new
HandlesAtMostOne old (Ok false) new = FindsNone old new
HandlesAtMostOne old (Err stop) new = Stays stop old new

-- these letters were handled one after the other; the newest stands first
abbrev pub HandlesAll : List Letter → DeskState → DeskState → Type 0
HandlesAll [] old new = new ≡ old
HandlesAll (l ∷ letters) old new = (before : DeskState) × HandlesAll letters old before × HandlesNext l before new

-- a turn ends where its budget is used up, or no letter shows, or one is refused
abbrev pub EndsWith : Option Stop → ℕ → ℕ → DeskState → DeskState → Type 0
EndsWith None count budget last new = ((count ≡ budget) × (new ≡ last)) ⊎ ((count < budget) × FindsNone last new)
EndsWith (Some stop) count budget last new = (count < budget) × Stays stop last new

pub record Turns (budget : ℕ) (old : DeskState) (turn : Turned) (new : DeskState) : Type 0 where
  -- the desk when it has posted
  pub posted_desk : DeskState
  pub posts : Posts old posted_desk
  pub posted : turn.posted ≡ min (total posted_desk.outs.posted - total old.outs.posted) (2 ^ 64 - 1)
  -- the letters that were handled, the newest first, and the desk after them
  pub letters : List Letter
  pub last : DeskState
  pub handles : HandlesAll letters posted_desk last
  pub handled : turn.handled ≡ length letters
  pub within : turn.handled ≤ budget
  pub ends : EndsWith turn.stopped turn.handled budget last new
