-- Where the letters of a desk are.
use Rattle.std.specs.Prelude.{◌≡◌, ◌⊎◌, ℕ, ◌+◌, ◌*◌, ◌<◌, ◌==◌, not, cond, Bool, true, false, List, [], ◌∷◌, length}
use Rattle.std.specs.Prelude.{Option, Some, None, nat_lt}
use Rattle.pt_signal.specs.declared.letter.Letter.{Letter}
use Rattle.pt_carrier.specs.Ends.{InEnds, IsFirstFromCursor, ShowNone, Shows}
use Rattle.pt_shard.specs.ShardState.{ShardState}
use Rattle.pt_shard.specs.Outbox.{count_pending}
use Rattle.pt_desk.specs.declared.turned.Turned.{Turned}
use Rattle.pt_desk.specs.DeskState.{DeskState, GoesOn, posted_to, waits_for}
use Rattle.pt_desk.specs.Turns.{Turns, looking_first}
use Rattle.pt_c_values.specs.Places.{ShowsCode}

-- a bit for each box, the lowest that of the first: whether a letter is in it
abbrev pub desks_with : List (List Letter) → ℕ
desks_with [] = 0
desks_with (box ∷ boxes) = cond (not (length box == 0)) 1 0 + 2 * desks_with boxes

-- the lanes were looked at, and nothing was collected
pub record SameLanes (old new : InEnds) : Type 0 where
  pub place : new.place ≡ old.place
  pub cursor : new.cursor ≡ old.cursor
  pub collected : new.collected ≡ old.collected

-- nothing of the desk has changed, but for what it knows of the lanes to it
pub record LooksAround (old new : DeskState) : Type 0 where
  pub shard : new.shard ≡ old.shard
  pub outs : new.outs ≡ old.outs
  pub sight : new.sight ≡ old.sight
  pub lanes : SameLanes old.ins new.ins

-- a letter waits in the desk or a lane to it shows one; or no letter waits, and no lane shows one
abbrev pub HasLetters : ShardState → InEnds → Bool → InEnds → Type 0
HasLetters d old true new = (0 < count_pending d) ⊎ ((k : ℕ) × Shows old new k)
HasLetters d old false new = (count_pending d ≡ 0) × ShowNone old new 0 (length old.place.rings)

-- a turn posts nothing to a desk for which no letter waits as it begins
abbrev pub PostsWhereLettersWait : Type 0
PostsWhereLettersWait =
    (budget : ℕ) (old new : DeskState) (turned : Turned) (e : ℕ) → Turns budget old turned new
    → e < old.shard.config.desks → waits_for old e ≡ [] → posted_to new e ≡ posted_to old e

-- the same as C is told
abbrev pub HasLettersCode : ℕ → DeskState → Bool → DeskState → Type 0
HasLettersCode code old has new = (code ≡ 0) × HasLetters old.shard old.ins has new.ins × LooksAround old new

-- the next turn looks at the lane from this desk before the others, if there is such a desk
abbrev pub LooksFrom : ℕ → ℕ → DeskState → DeskState → Type 0
LooksFrom from code old new =
    (code ≡ 0) × (new ≡ cond (nat_lt from old.shard.config.desks) (looking_first from old) old) × GoesOn old new

-- the desk of the first lane from the cursor on that shows a letter, or there is none
abbrev pub LaneShown : InEnds → InEnds → Option ℕ → Type 0
LaneShown old new (Some k) = Shows old new k × IsFirstFromCursor old new k
LaneShown old new None = ShowNone old new 0 (length old.place.rings)

-- the same as C is told
abbrev pub NextLaneCode : ℕ → InEnds → ℕ → ℕ → InEnds → Type 0
NextLaneCode code old before after new =
    (k : Option ℕ) × ShowsCode code before after (λ d. d) k × LaneShown old new k

abbrev pub NextFromCode : ℕ → DeskState → ℕ → ℕ → DeskState → Type 0
NextFromCode code old before after new = NextLaneCode code old.ins before after new.ins × LooksAround old new
