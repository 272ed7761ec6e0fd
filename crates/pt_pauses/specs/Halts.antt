-- What the supervisors of a node uphold where a run of its epochs halted, and where it goes on from there.
use Rattle.std.specs.Prelude.{◌≡◌, ℕ, ◌<◌, List, ◌++◌, length, reverse, slice_index_or, true, Some, Result, Ok, Err}
use Rattle.pt_events.specs.declared.event.Stamped.{Stamped}
use Rattle.pt_events.specs.History.{Past}
use Rattle.pt_events.specs.Journal.{IsMerge, events}
use Rattle.pt_signal.specs.declared.pid.Pid.{Pid}
use Rattle.pt_signal.specs.declared.reason.Reason.{Reason}
use Rattle.pt_shard.specs.ShardState.{ShardState}
use Rattle.pt_gathered.specs.Gathered.{GatheredState, IsGathered, journals}
use Rattle.pt_gathered.specs.Pasts.{GoesOnFrom}
use Rattle.pt_gathered.specs.Settling.{NothingLeft, Settles}
use Rattle.pt_desk.specs.DeskState.{DeskState}
use Rattle.pt_workers.specs.declared.run_fault.RunFault.{RunFault}
use Rattle.pt_node.specs.Gathering.{Gathers}
use Rattle.pt_behaviour.specs.declared.behaviour.Next.TheVariants.{Stop}
use Rattle.pt_crew.specs.declared.crew.Crew.{Crew}
use Rattle.pt_crew.specs.Crews.{roles}
use Rattle.pt_crew.specs.Running.{UpholdsOn, is_idle}
use Rattle.pt_children.specs.Hearing.{Standing}
use Rattle.pt_supervisor.specs.Keeping.{Keeps, PartOf}
use Rattle.pt_pauses.specs.Gathering.{AllChildrenLive}
use Rattle.pt_pauses.specs.Stopping.{StartedEnded}
use Rattle.pt_epochs.specs.declared.epochs.Plan.{Plan}
use Rattle.pt_epochs.specs.declared.halted.Halted.{Halted}
use Rattle.pt_epochs.specs.declared.halted.Halted.TheVariants.{Running, Turning, Gathering, Settling}
use Rattle.pt_epochs.specs.declared.halted.Halted.TheVariants.{Reading, Taking, Resuming, Beginning}
use Rattle.pt_epochs.specs.declared.idle.Ended.{Ended}
use Rattle.pt_epochs.specs.Epochs.{GoesOnAs, HaltsEpoch, ResumesCrews}
use Rattle.pt_epochs.specs.Idle.{RunsUntilIdle, Worked}
use Rattle.pt_epochs.specs.Running.{HaltsRun, Manned}
use Rattle.pt_pauses.specs.Pauses.{AllHold}

-- The crews' supervisors hold their children on the desks of a gathered node, which goes on from this history.
pub record AllHoldIn {B : Type 0} (part : PartOf B) (past : Past) (crews : List (Crew B)) (g : GatheredState)
    : Type 0 where
  pub node : IsGathered g
  pub count : length crews ≡ length g.shards
  pub each : (d : ℕ) (c : Crew B) (x : ShardState) → d < length g.shards
      → UpholdsOn (Keeps past part) (slice_index_or crews d c) (slice_index_or g.shards d x)
  pub from : GoesOnFrom past g

-- a pause, step by step --------------------------------------------------------------

-- gathering keeps it
abbrev pub GatheringHolds : {B : Type 0} → PartOf B → Type 0
GatheringHolds {B} part =
    (past : Past) (desks : List DeskState) (crews : List (Crew B)) (g : GatheredState)
    → Gathers desks g → IsGathered g → AllHold part past crews desks → AllHoldIn part past crews g

-- and so does settling, as far as it comes
abbrev pub SettlingHolds : {B : Type 0} → PartOf B → Type 0
SettlingHolds {B} part =
    (past : Past) (crews : List (Crew B)) (old new : GatheredState)
    → Settles old new → IsGathered new → AllHoldIn part past crews old → AllHoldIn part past crews new

-- and so do crews that begin again on the node that was resumed, behind what has happened until then
abbrev pub ResumingHolds : {B : Type 0} → PartOf B → Type 0
ResumingHolds {B} part =
    (past : Past) (merged : List Stamped) (g : GatheredState) (crews later : List (Crew B)) (new : List DeskState)
    → IsMerge (journals g) merged → ResumesCrews g crews new later → AllHoldIn part past crews g
    → AllHold part (events merged ++ past) later new

-- the two theorems, on a gathered node -------------------------------------------------

-- nobody of the crews has anything to do on the desks of the node
abbrev pub AreIdleIn : {B : Type 0} → List (Crew B) → GatheredState → Type 0
AreIdleIn {B} crews g =
    (d : ℕ) (c : Crew B) (x : ShardState) → d < length g.shards
    → is_idle (slice_index_or crews d c) (slice_index_or g.shards d x) ≡ true

-- Where no letter is left over and nobody has anything to do, each child that its supervisor wants alive lives, or took
-- its link away itself: at any time from the very beginning on.
abbrev pub HeldChildrenLive : {B : Type 0} → PartOf B → Type 0
HeldChildrenLive {B} part =
    (past : Past) (crews : List (Crew B)) (g : GatheredState) → NothingLeft g → AreIdleIn crews g
    → AllHoldIn part past crews g → AllChildrenLive past part crews g

-- Where a supervisor is to stop, none lives of all whom it has started from the very beginning on, but for those that
-- sent it an exit signal themselves.
abbrev pub HeldChildrenEnded : {B : Type 0} → PartOf B → Type 0
HeldChildrenEnded {B} part =
    (past : Past) (crews : List (Crew B)) (g : GatheredState) → AllHoldIn part past crews g
    → (d : ℕ) (c : Crew B) (x : ShardState) (p : Pid) (b : B) (reason : Reason) (s : Standing) → d < length g.shards
    → roles (slice_index_or crews d c) p ≡ Some (b, Stop reason) → part b ≡ Some s → p.shard ≡ d
    → StartedEnded past s p (slice_index_or g.shards d x) g

-- halts --------------------------------------------------------------------------------

-- What supervisors uphold where an epoch halted: on the desks of the node, or on the node as it is gathered. No halt is
-- that of crews which could not begin again.
abbrev pub HoldWhereHalted : {B : Type 0} → PartOf B → Past → List (Crew B) → Halted → Type 0
HoldWhereHalted part past crews (Running node fault) = AllHold part past crews node
HoldWhereHalted part past crews (Turning node stopped) = AllHold part past crews node
HoldWhereHalted part past crews (Gathering back) = AllHold part past crews back.node
HoldWhereHalted part past crews (Settling back) = AllHoldIn part past crews back.gathered
HoldWhereHalted part past crews (Reading q) = AllHoldIn part past crews q.gathered
HoldWhereHalted part past crews (Taking q) = AllHoldIn part past crews q.gathered
HoldWhereHalted part past crews (Resuming q) = AllHoldIn part past crews q.gathered
HoldWhereHalted part past crews (Beginning node) = ⊥

module _ {B S : Type 0} (part : PartOf B) (Takes Refuses : S → List Stamped → S → Type 0) where
  -- the end of an epoch that halts
  abbrev pub HaltedEpochHolds : Type 0
  HaltedEpochHolds =
      (past : Past) (old : List DeskState) (crews later : List (Crew B)) (halted : Halted) (sink after : S)
      → HaltsEpoch Takes Refuses old crews sink halted later after → AllHold part past crews old
      → HoldWhereHalted part past later halted

  -- The node that comes back where an epoch goes on. If it was not settled yet, or its history not taken, the sink takes
  -- it, and it is then before the journals. If the sink had taken it before, it is so behind each merge of the journals.
  abbrev pub HoldBehind : Past → Halted → List DeskState → List (Crew B) → S → S → Type 0
  HoldBehind past (Running node fault) desks later sink after = AllHold part past later desks
  HoldBehind past (Turning node stopped) desks later sink after = AllHold part past later desks
  HoldBehind past (Resuming q) desks later sink after =
      (merged : List Stamped) → IsMerge (journals q.gathered) merged
      → AllHold part (events merged ++ past) later desks
  HoldBehind past halted desks later sink after =
      (history : List Stamped) × Takes sink history after × AllHold part (events (reverse history) ++ past) later desks

  -- going on where an epoch halted: the node comes back, or the epoch halts again
  abbrev pub GoingOnHolds : Type 0
  GoingOnHolds =
      (past : Past) (halted : Halted) (desks : List DeskState) (crews later : List (Crew B)) (sink after : S)
      → GoesOnAs Takes Refuses halted crews sink (Ok desks) later after → HoldWhereHalted part past crews halted
      → HoldBehind past halted desks later sink after

  abbrev pub HaltingAgainHolds : Type 0
  HaltingAgainHolds =
      (past : Past) (halted again : Halted) (crews later : List (Crew B)) (sink after : S)
      → GoesOnAs Takes Refuses halted crews sink (Err again) later after → HoldWhereHalted part past crews halted
      → HoldWhereHalted part past later again

  module _ (Runs : Plan → ℕ → List (DeskState × Crew B) → List (DeskState × Crew B) → Type 0) where
    -- a run of epochs that halts in one of them: what the sink took of those before is before the journals
    abbrev pub HaltedRunHolds : Type 0
    HaltedRunHolds =
        (past : Past) (plan : Plan) (most : ℕ) (old : Manned B S) (halted : Halted) (later : List (Crew B)) (after : S)
        (halts : HaltsRun (Runs plan) plan Takes Refuses most old halted later after)
        → AllHold part past old.crews old.desks
        → HoldWhereHalted part (events (reverse halts.before) ++ past) later halted

-- a run until nothing is left to do, however it ends
abbrev pub RunUntilIdleHolds : {B : Type 0} → PartOf B
    → (ℕ → ℕ → List (DeskState × Crew B) → List (DeskState × Crew B) → Type 0) → Type 0
RunUntilIdleHolds {B} part Runs =
    (past : Past) (budget most : ℕ) (old new : Worked (Crew B)) (result : Result Ended RunFault)
    → RunsUntilIdle (Runs budget) budget most old result new → AllHold part past old.works old.desks
    → AllHold part past new.works new.desks
