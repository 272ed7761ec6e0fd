-- What happened on the node of these desks before their journals, from its first opening on.
use Rattle.std.specs.Prelude.{List, [], ◌++◌, reverse}
use Rattle.pt_events.specs.declared.event.Stamped.{Stamped}
use Rattle.pt_events.specs.History.{Past, IsLegal}
use Rattle.pt_events.specs.Journal.{events}
use Rattle.pt_laws.specs.Load.{IsQuiet}
use Rattle.pt_signal.specs.declared.config.Config.{Config}
use Rattle.pt_gathered.specs.Gathered.{GatheredState}
use Rattle.pt_beginning.specs.Beginning.{start_of}
use Rattle.pt_gathered.specs.Pasts.{IsBeginningOf, IsOutlineOf, GoesOnFrom, GoesOnBut}
use Rattle.pt_desk.specs.DeskState.{DeskState}
use Rattle.pt_workers.specs.Desks.{AreDesksOf, all_shards}

-- desks of one node that go on from this history: from [] where the node was opened, and else from all that happened on
-- it before their journals. No call of a desk changes it
pub record GoOnFrom (past : Past) (desks : List DeskState) : Type 0 where
  pub config : Config
  pub node : AreDesksOf config desks
  pub begun : IsBeginningOf past config.start (start_of (all_shards desks))

-- the gathered node goes on from what its desks went on from
abbrev pub GathersPast : List DeskState → GatheredState → Type 0
GathersPast desks g = (past : Past) → GoOnFrom past desks → GoesOnFrom past g

-- the same, of desks that may have forgotten why processes ended in that history
pub record GoOnBut (past : Past) (desks : List DeskState) : Type 0 where
  pub config : Config
  pub node : AreDesksOf config desks
  pub begun : IsOutlineOf past config.start (start_of (all_shards desks))

-- and of a node that is gathered from them
abbrev pub GathersOutline : List DeskState → GatheredState → Type 0
GathersOutline desks g = (past : Past) → GoOnBut past desks → GoesOnBut past g

-- what desks go on from and then this history are one legal history from the very beginning on, in which at the end
-- nothing is on its way; and the later desks go on from it
pub record Lengthens (past : Past) (history : List Stamped) (new : List DeskState) : Type 0 where
  pub legal : IsLegal [] (events (reverse history) ++ past)
  pub quiet : IsQuiet [] (events (reverse history) ++ past)
  pub goes_on : GoOnFrom (events (reverse history) ++ past) new

-- this history and whatever the old desks go on from are one history, and the new desks go on from it
abbrev pub IsOneHistory : List Stamped → List DeskState → List DeskState → Type 0
IsOneHistory history old new = (past : Past) → GoOnFrom past old → Lengthens past history new
