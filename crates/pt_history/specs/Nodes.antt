-- The law of custody at a node, over all that happened on it from its first opening on: where it is gathered, where it is
-- settled, and behind a pause.
use Rattle.std.specs.Prelude.{◌≡◌, ℕ, ◌<◌, ◌⊎◌, true, List, [], ◌∷◌, ◌++◌, length, slice_index_or}
use Rattle.pt_signal.specs.declared.pid.Pid.{Pid}
use Rattle.pt_signal.specs.declared.item.Body.{Body}
use Rattle.pt_signal.specs.declared.item.Item.{Item}
use Rattle.pt_events.specs.declared.event.Event.{Event}
use Rattle.pt_events.specs.declared.event.Stamped.{Stamped}
use Rattle.pt_events.specs.History.{Past}
use Rattle.pt_events.specs.Journal.{IsMerge, events}
use Rattle.pt_events.specs.Takes.{taken}
use Rattle.pt_laws.specs.Sender.{messages, said_messages}
use Rattle.pt_shard.specs.declared.loss.Loss.{Loss}
use Rattle.pt_shard.specs.Losses.{losses}
use Rattle.pt_shard.specs.Restart.{restarted}
use Rattle.pt_shard.specs.ShardState.{ShardState, past, phase_of, written}
use Rattle.pt_gathered.specs.Gathered.{GatheredState, IsGathered, journals, over}
use Rattle.pt_gathered.specs.Pasts.{GoesOnBut}
use Rattle.pt_gathered.specs.Settling.{NothingLeft, Settles}
use Rattle.pt_desk.specs.DeskState.{DeskState}
use Rattle.pt_node.specs.Gathering.{Gathers}
use Rattle.pt_node.specs.Pasts.{GoOnBut, GoOnFrom}
use Rattle.pt_node.specs.Resuming.{Resumes, ResumesForgetful}
use Rattle.pt_history.specs.Custody.{mailbox, all_lost_to, HasEachOnce}

-- of all that happened, where this waits in p's mailbox and this is on its way to it
abbrev pub HasEachSince : Pid → Past → List Item → (Pid → List Body) → Type 0
HasEachSince p past waiting on_way =
    HasEachOnce p (λ a. said_messages a p past) (taken past p) waiting (all_lost_to p (losses [] past)) on_way

-- a gathered node, whatever it goes on from: what waits is in the mailbox on p's desk, and what is on its way is left over
-- from desk to desk
abbrev pub KeepsEach : GatheredState → Type 0
KeepsEach g =
    (past : Past) (merged : List Stamped) (p : Pid) (x : ShardState) → GoesOnBut past g → IsMerge (journals g) merged
    → p.shard < length g.shards
    → HasEachSince p (events merged ++ past) (mailbox (phase_of (slice_index_or g.shards p.shard x) p))
    (λ a. messages a p (over g a.shard p.shard))

abbrev pub GatheredKeep : Type 0
GatheredKeep = (g : GatheredState) → IsGathered g → KeepsEach g

-- and once it is settled nothing is on its way
abbrev pub KeepsEachAtRest : GatheredState → Type 0
KeepsEachAtRest g =
    (past : Past) (merged : List Stamped) (p : Pid) (x : ShardState) → GoesOnBut past g → IsMerge (journals g) merged
    → p.shard < length g.shards
    → HasEachSince p (events merged ++ past) (mailbox (phase_of (slice_index_or g.shards p.shard x) p)) (λ a. [])

abbrev pub SettledKeep : Type 0
SettledKeep = (g : GatheredState) → IsGathered g → NothingLeft g → KeepsEachAtRest g

-- pauses ----------------------------------------------------------------------------------

-- A node is gathered, settled and resumed, and may forget why its processes ended. Until then these events happened, in
-- one of the orders in which the journals can be merged.
pub record NodePauses (merged : List Stamped) (desks new : List DeskState) : Type 0 where
  pub gathered : GatheredState
  pub gathers : Gathers desks gathered
  pub node : IsGathered gathered
  pub settled : GatheredState
  pub settles : Settles gathered settled
  pub settled_node : IsGathered settled
  pub nothing_left : NothingLeft settled
  pub merge : IsMerge (journals settled) merged
  pub resumes : Resumes settled new ⊎ ResumesForgetful settled new

-- on the desks behind it each item is there once, and nothing is on its way; they go on from what happened until then, so
-- the law holds where they are gathered, and behind the next pause
abbrev pub PausesKeep : Type 0
PausesKeep =
    (past : Past) (merged : List Stamped) (desks new : List DeskState) → NodePauses merged desks new → GoOnBut past desks
    → ((p : Pid) (x : DeskState) → p.shard < length new
    → HasEachSince p (events merged ++ past) (mailbox (phase_of (slice_index_or new p.shard x).shard p)) (λ a. []))
    × GoOnBut (events merged ++ past) new

-- a node that forgot nothing goes on so
abbrev pub ForgotNothing : Type 0
ForgotNothing = (past : Past) (desks : List DeskState) → GoOnFrom past desks → GoOnBut past desks

-- losses that are told -----------------------------------------------------------------------

-- p's desk has kept its losses from the node's first opening on: those told, then those kept, are what it lost before its
-- journal, and then what the journal lost
pub record TellsAll (p : Pid) (before : Past) (told : List Loss) (s : ShardState) : Type 0 where
  pub carried : List Loss
  pub carried_are : all_lost_to p carried ≡ all_lost_to p (losses [] before)
  pub told_are : told ++ s.lost ≡ carried ++ losses s.start (past s)

-- so it is on a desk that opens, and it stays so while losses are kept: with each event, as a loss is told, and as the
-- node is settled
pub record TellingStays : Type 0 where
  pub opens : (p : Pid) (s : ShardState) → s.start ≡ [] → s.journal ≡ [] → s.lost ≡ [] → TellsAll p [] [] s
  pub writes : (p : Pid) (before : Past) (told : List Loss) (n : ℕ) (e : Event) (s : ShardState) → s.keeps ≡ true
      → TellsAll p before told s → TellsAll p before told (written n e s)
  pub tells : (p : Pid) (before : Past) (told : List Loss) (loss : Loss) (rest : List Loss) (s : ShardState)
      → s.lost ≡ loss ∷ rest → TellsAll p before told s
      → TellsAll p before (told ++ loss ∷ []) (record s { lost = rest })
  pub settles : (p : Pid) (before : Past) (told : List Loss) (old new : GatheredState) (x : ShardState)
      → Settles old new → p.shard < length old.shards → (slice_index_or old.shards p.shard x).keeps ≡ true
      → TellsAll p before told (slice_index_or old.shards p.shard x)
      → ((slice_index_or new.shards p.shard x).keeps ≡ true)
      × TellsAll p before told (slice_index_or new.shards p.shard x)

-- then what p lost is what those losses tell, in order, where the node is gathered; and so it stays where it goes on
abbrev pub LossesAreTold : Type 0
LossesAreTold =
    (g : GatheredState) (before : Past) (merged : List Stamped) (p : Pid) (x : ShardState) (told : List Loss) (n : ℕ)
    → IsGathered g → GoesOnBut before g → IsMerge (journals g) merged → p.shard < length g.shards
    → TellsAll p before told (slice_index_or g.shards p.shard x)
    → (all_lost_to p (losses [] (events merged ++ before))
    ≡ all_lost_to p (told ++ (slice_index_or g.shards p.shard x).lost))
    × TellsAll p (events merged ++ before) told (restarted n (slice_index_or g.shards p.shard x))

-- Behind a pause p's desk keeps its losses as before, and has told and keeps all that it lost. So that is what p lost, in
-- order, over any number of pauses.
abbrev pub PausesTell : Type 0
PausesTell =
    (before : Past) (merged : List Stamped) (desks new : List DeskState) (p : Pid) (x : DeskState) (told : List Loss)
    → NodePauses merged desks new → GoOnBut before desks → p.shard < length new
    → (slice_index_or desks p.shard x).shard.keeps ≡ true
    → TellsAll p before told (slice_index_or desks p.shard x).shard
    → ((slice_index_or new p.shard x).shard.keeps ≡ true)
    × TellsAll p (events merged ++ before) told (slice_index_or new p.shard x).shard
    × (all_lost_to p (losses [] (events merged ++ before))
    ≡ all_lost_to p (told ++ (slice_index_or new p.shard x).shard.lost))
