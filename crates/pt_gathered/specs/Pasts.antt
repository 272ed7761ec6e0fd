-- What happened on a node from its first opening on: what was before the journals of its desks, and then their history.
use Rattle.std.specs.Prelude.{◌≡◌, ℕ, ◌≤◌, List, [], ◌++◌, map}
use Rattle.pt_events.specs.declared.event.Stamped.{Stamped}
use Rattle.pt_events.specs.History.{Past, Start, IsLegal}
use Rattle.pt_events.specs.Journal.{events, clock, IsMerge}
use Rattle.pt_laws.specs.Laws.{LanesFly}
use Rattle.pt_laws.specs.Load.{IsQuiet}
use Rattle.pt_laws.specs.Resumed.{HasAllReasons}
use Rattle.pt_shard.specs.Restart.{restarted}
use Rattle.pt_beginning.specs.Beginning.{IsBeginning, start_of}
use Rattle.pt_gathered.specs.Gathered.{GatheredState, begins, journals, over}

-- the start is what this history left behind, all that happened before it from the very beginning on; why processes
-- ended may be forgotten
pub record IsOutlineOf (past : Past) (low : ℕ) (start : Start) : Type 0 where
  pub begun : IsBeginning low start
  pub past_is : begun.past ≡ past

-- and it is not forgotten of any
pub record IsBeginningOf (past : Past) (low : ℕ) (start : Start) : Type 0 where
  pub begun : IsBeginning low start
  pub past_is : begun.past ≡ past
  pub reasons : HasAllReasons start past

-- the node goes on from this history: from [] where it was opened, and else from all that happened on it before its
-- desks had the journals that they have
abbrev pub GoesOnFrom : Past → GatheredState → Type 0
GoesOnFrom past g = IsBeginningOf past g.config.start (begins g)

-- what it went on from, it goes on from
abbrev pub KeepsPast : GatheredState → GatheredState → Type 0
KeepsPast old new = (past : Past) → GoesOnFrom past old → GoesOnFrom past new

-- that history and the events of its desks after it are one legal history from the very beginning on, in which the
-- letters left over are those in flight
abbrev pub IsLegalWhole : GatheredState → Type 0
IsLegalWhole g =
    (past : Past) (merged : List Stamped) → GoesOnFrom past g → IsMerge (journals g) merged
    → IsLegal [] (events merged ++ past) × LanesFly [] (events merged ++ past) (over g)

-- and in which nothing is in flight
abbrev pub IsQuietWhole : GatheredState → Type 0
IsQuietWhole g =
    (past : Past) (merged : List Stamped) → GoesOnFrom past g → IsMerge (journals g) merged
    → IsLegal [] (events merged ++ past) × IsQuiet [] (events merged ++ past)

-- and both together are what its desks leave behind, at each stamp that no clock has passed
abbrev pub BeginsAgainAfter : GatheredState → Type 0
BeginsAgainAfter g =
    (past : Past) (merged : List Stamped) (n : ℕ) → GoesOnFrom past g → IsMerge (journals g) merged
    → ((d : ℕ) → clock g.config.start (journals g d) ≤ n)
    → IsBeginningOf (events merged ++ past) n (start_of (map (restarted n) g.shards))

-- where reasons are forgotten ---------------------------------------------------------------------

-- the node goes on from this history, but may have forgotten why processes ended in it
abbrev pub GoesOnBut : Past → GatheredState → Type 0
GoesOnBut past g = IsOutlineOf past g.config.start (begins g)

-- all that is said above of a node that forgot nothing, but for the reasons: it is one legal history, in which the
-- letters left over are those in flight
abbrev pub IsLegalOutline : GatheredState → Type 0
IsLegalOutline g =
    (past : Past) (merged : List Stamped) → GoesOnBut past g → IsMerge (journals g) merged
    → IsLegal [] (events merged ++ past) × LanesFly [] (events merged ++ past) (over g)

-- in which nothing is in flight
abbrev pub IsQuietOutline : GatheredState → Type 0
IsQuietOutline g =
    (past : Past) (merged : List Stamped) → GoesOnBut past g → IsMerge (journals g) merged
    → IsLegal [] (events merged ++ past) × IsQuiet [] (events merged ++ past)

-- and what its desks leave behind goes on from it
abbrev pub OutlinesAgainAfter : GatheredState → Type 0
OutlinesAgainAfter g =
    (past : Past) (merged : List Stamped) (n : ℕ) → GoesOnBut past g → IsMerge (journals g) merged
    → ((d : ℕ) → clock g.config.start (journals g d) ≤ n)
    → IsOutlineOf (events merged ++ past) n (start_of (map (restarted n) g.shards))
