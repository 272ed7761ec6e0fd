-- What settling does: receipts alone, each of which lowers the load.
use Rattle.std.specs.Prelude.{⊤, ◌≡◌, ℕ, ◌+◌, ◌^◌, ◌<◌, ◌≤◌, ◌==◌, ◌&&◌, Bool, true, false, cond, List, [], ◌∷◌, ◌++◌}
use Rattle.std.specs.Prelude.{length, map, filter, max, min, ◌-◌, drop, slice_index_or, Result, Ok, Err}
use Rattle.pt_signal.specs.declared.letter.Letter.{Letter}
use Rattle.pt_events.specs.declared.event.Stamped.{Stamped}
use Rattle.pt_events.specs.History.{Start, sent_by}
use Rattle.pt_events.specs.Journal.{events, letter, clock}
use Rattle.pt_signal.specs.declared.config.TheConstants.{MAX_STAMP}
use Rattle.pt_events.specs.Counting.{below}
use Rattle.pt_laws.specs.Load.{load_by_desk}
use Rattle.pt_laws.specs.LoadLaws.{AllCame}
use Rattle.pt_shard.specs.declared.stop.Stop.{Stop}
use Rattle.pt_shard.specs.declared.stop.Stop.TheVariants.{Memory, Worn}
use Rattle.pt_shard.specs.declared.loss.Loss.{Loss}
use Rattle.pt_shard.specs.Losses.{losses}
use Rattle.pt_shard.specs.ShardState.{ShardState, came_event, past}
use Rattle.pt_gathered.specs.Gathered.{GatheredState, begins, journals, over, over_in}

-- the load, desk by desk
abbrev pub load_of : GatheredState → ℕ
load_of g = load_by_desk (begins g) (journals g) (over g) (length g.shards)

-- the receipt of the letter at desk e
abbrev pub receipt : ℕ → ℕ → Letter → List Stamped → Stamped
receipt low e l journal = record { stamp = max (clock low journal) l.stamp + 1; desk = e; event = came_event l }

-- what the receipt sends
abbrev pub replies : Start → ℕ → ℕ → Letter → List Stamped → List Letter
replies start low e l journal = map (letter (receipt low e l journal).stamp) (sent_by start (events journal) (came_event l))

abbrev pub replies_to : Start → ℕ → ℕ → Letter → List Stamped → ℕ → List Letter
replies_to start low e l journal k = filter (λ r. r.to.shard == k) (replies start low e l journal)

-- The desk keeps its losses or not as before. What it keeps to be told afterwards is what it kept before and then, if it
-- keeps losses, what the later events of its journal lost, in order.
pub record KeepsLost (old new : ShardState) : Type 0 where
  pub keeps : new.keeps ≡ old.keeps
  pub later : List Loss
  pub later_are : losses new.start (past new) ≡ losses old.start (past old) ++ later
  pub lost : new.lost ≡ cond old.keeps (old.lost ++ later) old.lost

-- so does each desk
abbrev pub AllKeepLost : GatheredState → GatheredState → Type 0
AllKeepLost old new =
    (d : ℕ) (x : ShardState) → d < length old.shards
    → KeepsLost (slice_index_or old.shards d x) (slice_index_or new.shards d x)

-- the first letter left over from desk d to desk e came to its receiver, and nothing else happened
pub record Receives (d e : ℕ) (l : Letter) (old new : GatheredState) : Type 0 where
  pub config : new.config ≡ old.config
  pub start : begins new ≡ begins old
  pub count : length new.shards ≡ length old.shards
  pub first : over_in old.shards old.lanes d e ≡ l ∷ drop 1 (over_in old.shards old.lanes d e)
  pub from : l.from.shard ≡ d
  pub to : l.to.shard ≡ e
  pub within : max (clock old.config.start (journals old e)) l.stamp < MAX_STAMP
  pub journal : (k : ℕ) → k < length old.shards
      → journals new k ≡ cond (k == e) (receipt old.config.start e l (journals old e) ∷ journals old k) (journals old k)
  pub left : (i k : ℕ) → i < length old.shards → k < length old.shards
      → over_in new.shards new.lanes i k
      ≡ cond ((i == d) && (k == e)) (drop 1 (over_in old.shards old.lanes i k)) (over_in old.shards old.lanes i k)
      ++ cond (i == e) (replies_to (begins old) old.config.start e l (journals old e) k) []
  pub losses_kept : AllKeepLost old new

-- a refusal: the stamp of the receipt would pass the limit, or else there was no memory for it
abbrev pub IsRefused : Stop → ℕ → Letter → GatheredState → Type 0
IsRefused Worn e l g = MAX_STAMP ≤ max (clock g.config.start (journals g e)) l.stamp
IsRefused Memory e l g = max (clock g.config.start (journals g e)) l.stamp < MAX_STAMP

-- the answer of one step
abbrev pub Steps : ℕ → ℕ → GatheredState → Result Bool Stop → GatheredState → Type 0
Steps d e old (Ok true) new = (l : Letter) × Receives d e l old new
Steps d e old (Ok false) new = (over_in old.shards old.lanes d e ≡ []) × (new ≡ old)
Steps d e old (Err stop) new =
    (l : Letter) × IsRefused stop e l old
    × (over_in old.shards old.lanes d e ≡ l ∷ drop 1 (over_in old.shards old.lanes d e)) × (new ≡ old)

-- the one journal is the other with receipts after it
pub record Follows (old new : List Stamped) : Type 0 where
  pub more : List Stamped
  pub is : new ≡ more ++ old
  pub receipts : AllCame (events more)

-- how many events all desks have
abbrev pub event_count : GatheredState → ℕ
event_count g = below (λ d. length (journals g d)) (length g.shards)

-- the node after so many receipts
pub record Settles (old new : GatheredState) : Type 0 where
  pub config : new.config ≡ old.config
  pub start : begins new ≡ begins old
  pub count : length new.shards ≡ length old.shards
  pub journals_follow : (d : ℕ) → d < length old.shards → Follows (journals old d) (journals new d)
  pub grows : event_count old ≤ event_count new
  pub bound : event_count new + load_of new ≤ event_count old + load_of old
  pub losses_kept : AllKeepLost old new

abbrev pub NothingLeft : GatheredState → Type 0
NothingLeft g = (d e : ℕ) → d < length g.shards → e < length g.shards → over_in g.shards g.lanes d e ≡ []

-- settled so far, and counted
pub record Runs (old : GatheredState) (handled : ℕ) (new : GatheredState) (handled' : ℕ) : Type 0 where
  pub settles : Settles old new
  pub counts : handled' ≡ min (handled + (event_count new - event_count old)) (2 ^ 64 - 1)

-- whether any letter was handled: if none, nothing changed, and there was none where it looked
abbrev pub Moves : Type 0 → GatheredState → Result Bool Stop → GatheredState → Type 0
Moves empty old (Ok true) new = event_count old < event_count new
Moves empty old (Ok false) new = empty × (new ≡ old)
Moves empty old (Err stop) new = ⊤

-- nothing is left over to desk e from the desks below n
abbrev pub NothingTo : ℕ → ℕ → GatheredState → Type 0
NothingTo n e g = (d : ℕ) → d < n → over_in g.shards g.lanes d e ≡ []

abbrev pub NothingBelow : ℕ → GatheredState → Type 0
NothingBelow n g = (e : ℕ) → e < n → NothingTo (length g.shards) e g
