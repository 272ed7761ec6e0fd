-- What the supervisors of a node uphold over its pauses.
use Rattle.std.specs.Prelude.{ℕ, ◌<◌, List, ◌++◌, length, reverse, slice_index_or, Result}
use Rattle.pt_events.specs.declared.event.Stamped.{Stamped}
use Rattle.pt_events.specs.History.{Past}
use Rattle.pt_events.specs.Journal.{IsMerge, events}
use Rattle.pt_gathered.specs.Gathered.{GatheredState, IsGathered, journals}
use Rattle.pt_gathered.specs.Settling.{Settles}
use Rattle.pt_desk.specs.DeskState.{DeskState}
use Rattle.pt_workers.specs.NodeRunning.{RunsNode}
use Rattle.pt_workers.specs.Running.{AllWork, BeginRelation, InRounds}
use Rattle.pt_workers.specs.Stillness.{AllDesksGoOn, RunsRounds}
use Rattle.pt_workers.specs.declared.run_fault.RunFault.{RunFault}
use Rattle.pt_workers.specs.declared.stillness.Rested.{Rested}
use Rattle.pt_node.specs.Gathering.{Gathers}
use Rattle.pt_node.specs.Pasts.{GoOnFrom}
use Rattle.pt_behaviour.specs.declared.births.Role.{Role}
use Rattle.pt_crew.specs.declared.crew.Crew.{Crew}
use Rattle.pt_behaviour.specs.Behaving.{Answers}
use Rattle.pt_crew.specs.Upholding.{AllStill}
use Rattle.pt_crew.specs.Running.{AllUphold, CrewsDo}
use Rattle.pt_supervisor.specs.Keeping.{Keeps, PartOf}
use Rattle.pt_pauses.specs.Gathering.{AllChildrenLive}
use Rattle.pt_epochs.specs.declared.epochs.Outcome.{Outcome}
use Rattle.pt_epochs.specs.declared.epochs.Pause.TheVariants.{Idle}
use Rattle.pt_epochs.specs.declared.epochs.Plan.{Plan}
use Rattle.pt_epochs.specs.Epochs.{EndsEpoch, ResumesCrews}
use Rattle.pt_epochs.specs.Running.{Manned, PassesAsOne, PassesOne}

-- The crews' supervisors hold their children, on desks that go on from this history.
pub record AllHold {B : Type 0} (part : PartOf B) (past : Past) (crews : List (Crew B)) (desks : List DeskState)
    : Type 0 where
  pub uphold : AllUphold (Keeps past part) crews desks
  pub from : GoOnFrom past desks

-- what the desks go on from stays so through all that is done on them
abbrev pub StaysFrom : Type 0
StaysFrom = (past : Past) (old new : List DeskState) → AllDesksGoOn old new → GoOnFrom past old → GoOnFrom past new

-- A run of the crews keeps it, each on a thread of its own or in rounds.
abbrev pub RunHolds : {B : Type 0} → Answers B → PartOf B → BeginRelation (Crew B) → Type 0
RunHolds {B} answers part lets =
    (past : Past) (turns budget : ℕ) (old new : List DeskState) (crews later : List (Crew B))
    (result : Result (Unit {0}) RunFault)
    → RunsNode (AllWork lets (CrewsDo answers) turns budget) old crews result new later
    → AllHold part past crews old → AllHold part past later new

abbrev pub RoundsHold : {B : Type 0} → Answers B → PartOf B → BeginRelation (Crew B) → Type 0
RoundsHold {B} answers part lets =
    (past : Past) (turns budget : ℕ) (old new : List DeskState) (crews later : List (Crew B))
    (result : Result (Unit {0}) RunFault)
    → RunsNode (λ before after. AllWork lets (CrewsDo answers) turns budget before after
    × InRounds lets (CrewsDo answers) turns budget before after) old crews result new later
    → AllHold part past crews old → AllHold part past later new

-- and so does turning the node until it is still, or a turn is stopped
abbrev pub RestHolds : {B : Type 0} → PartOf B → Type 0
RestHolds {B} part =
    (past : Past) (budget : ℕ) (old new : List DeskState) (crews : List (Crew B)) (did : Rested)
    → RunsRounds budget old did new → AllHold part past crews old → AllHold part past crews new

-- a pause ---------------------------------------------------------------------------

-- A node is gathered, settled and resumed, and then its crews begin again. In between these events happened, in one of
-- the orders in which the journals can be merged.
pub record Pauses {B : Type 0} (merged : List Stamped) (desks : List DeskState) (crews : List (Crew B))
    (new : List DeskState) (later : List (Crew B)) : Type 0 where
  pub gathered : GatheredState
  pub gathers : Gathers desks gathered
  pub node : IsGathered gathered
  pub settled : GatheredState
  pub settles : Settles gathered settled
  pub settled_node : IsGathered settled
  pub merge : IsMerge (journals settled) merged
  pub resumes : ResumesCrews settled crews new later

-- what supervisors uphold they uphold behind it, and what happened is then before the journals
abbrev pub PausesHold : {B : Type 0} → PartOf B → Type 0
PausesHold {B} part =
    (past : Past) (merged : List Stamped) (desks new : List DeskState) (crews later : List (Crew B))
    → Pauses merged desks crews new later → AllHold part past crews desks
    → AllHold part (events merged ++ past) later new

-- and so it is of those who left before
abbrev pub PausesKeepLeft : {B : Type 0} → PartOf B → Type 0
PausesKeepLeft {B} part =
    (past : Past) (merged : List Stamped) (desks new : List DeskState) (crews later : List (Crew B)) (d : ℕ)
    (x : DeskState) (left : List (Role B)) → Pauses merged desks crews new later → GoOnFrom past desks → d < length desks
    → AllStill (Keeps past part) left (slice_index_or desks d x).shard
    → AllStill (Keeps (events merged ++ past) part) left (slice_index_or new d x).shard

-- epochs ----------------------------------------------------------------------------

module _ {B S : Type 0} (part : PartOf B) (Takes Refuses : S → List Stamped → S → Type 0) where
  -- the end of an epoch
  abbrev pub EpochsHold : Type 0
  EpochsHold =
      (past : Past) (history : List Stamped) (desks new : List DeskState) (crews later : List (Crew B)) (sink after : S)
      → EndsEpoch Takes Refuses history desks crews sink new later after → AllHold part past crews desks
      → AllHold part (events (reverse history) ++ past) later new

  module _ (Runs : Plan → ℕ → List (DeskState × Crew B) → List (DeskState × Crew B) → Type 0) where
    -- a run of epochs, behind which all that the sink took is before the journals
    abbrev pub RunsHold : Type 0
    RunsHold =
        (past : Past) (plan : Plan) (most : ℕ) (why : Outcome) (old new : Manned B S)
        (passes : PassesAsOne (Runs plan) plan Takes Refuses most why old new)
        → AllHold part past old.crews old.desks
        → AllHold part (events (reverse passes.all) ++ past) new.crews new.desks

    -- one epoch: where it ends since nothing is left to do, all children that are to live do so at its end
    abbrev pub IdleEpochsLive : Type 0
    IdleEpochsLive =
        (past : Past) (plan : Plan) (history : List Stamped) (old new : Manned B S)
        (passes : PassesOne (Runs plan) plan Takes Refuses Idle history old new) → AllHold part past old.crews old.desks
        → AllChildrenLive past part passes.ran.works passes.ends.over.settled
