-- Crews whose supervisors spawn all their children, on their own desks: what keeps them so, and what they are promised.
--
-- Such a supervisor never waits for a child on another desk. So what the theorems on children ask of a supervisor, that it
-- does not wait so, is true of it at any time.
use Rattle.std.specs.Prelude.{◌≡◌, ⊤, ℕ, ◌<◌, List, [], ◌∷◌, length, slice_index_or, Option, Some, None, Result}
use Rattle.pt_signal.specs.declared.pid.Pid.{Pid}
use Rattle.pt_signal.specs.declared.item.Item.{Item}
use Rattle.pt_events.specs.declared.event.Stamped.{Stamped}
use Rattle.pt_events.specs.History.{Past}
use Rattle.pt_shard.specs.declared.fault.Fault.{Fault}
use Rattle.pt_shard.specs.ShardState.{ShardState}
use Rattle.pt_gathered.specs.Gathered.{GatheredState, IsGathered}
use Rattle.pt_gathered.specs.Settling.{NothingLeft}
use Rattle.pt_desk.specs.DeskState.{DeskState}
use Rattle.pt_desk.specs.declared.turned.Turned.{Turned}
use Rattle.pt_workers.specs.Desks.{all_shards}
use Rattle.pt_workers.specs.NodeRunning.{RunsNode}
use Rattle.pt_workers.specs.Running.{AllWork, BeginRelation, InRounds}
use Rattle.pt_workers.specs.declared.run_fault.RunFault.{RunFault}
use Rattle.pt_behaviour.specs.declared.behaviour.Next.{Next}
use Rattle.pt_behaviour.specs.declared.births.Role.{Role}
use Rattle.pt_behaviour.specs.Behaving.{Answers}
use Rattle.pt_crew.specs.declared.crew.Crew.{Crew}
use Rattle.pt_crew.specs.Crews.{CrewDoes, CrewWorks, Enters, IsIdle, roles, waiting}
use Rattle.pt_crew.specs.Running.{AllUphold, AreIdle, CrewsDo}
use Rattle.pt_crew.specs.Upholding.{Upholds}
use Rattle.pt_children.specs.Hearing.{Standing}
use Rattle.pt_children.specs.Homes.{AllHere}
use Rattle.pt_supervisor.specs.Keeping.{Keeps, PartOf}
use Rattle.pt_epochs.specs.declared.epochs.Outcome.{Outcome}
use Rattle.pt_epochs.specs.declared.epochs.Pause.TheVariants.{Idle}
use Rattle.pt_epochs.specs.declared.epochs.Plan.{Plan}
use Rattle.pt_epochs.specs.declared.halted.Halted.{Halted}
use Rattle.pt_epochs.specs.declared.idle.Ended.{Ended}
use Rattle.pt_epochs.specs.Epochs.{CrewBegins, EachCrew, EndsEpoch, GoesOnAs, HaltsEpoch}
use Rattle.pt_epochs.specs.Idle.{RunsUntilIdle, Worked}
use Rattle.pt_epochs.specs.Running.{HaltsRun, Manned, PassesAsOne, PassesOne}
use Rattle.pt_pauses.specs.Halts.{AllHoldIn, AreIdleIn}
use Rattle.pt_pauses.specs.Pauses.{AllHold}
use Rattle.pt_pauses.specs.Still.{EachLives, IsStillNode, OfSupervisors}

-- a process that is a supervisor spawns all its children
abbrev pub IsHere : Option Standing → Type 0
IsHere None = ⊤
IsHere (Some s) = AllHere s.children

-- so it is of each of these
abbrev pub AreHere : {B : Type 0} → PartOf B → List (Role B) → Type 0
AreHere part [] = ⊤
AreHere part (r ∷ rs) = IsHere (part r.behaviour) × AreHere part rs

-- What a program shows of its behaviours: one that stood so stands so once it has answered, and so does each one that it
-- bears.
abbrev pub AnswersHere : {B : Type 0} → Answers B → PartOf B → Type 0
AnswersHere {B} answers part =
    (time : ℕ) (b : B) (d : ShardState) (me : Pid) (item : Option Item) (next : Next) (now : B) (e : ShardState)
    (births : List (Role B)) → answers time b d me item next now e births
    → (IsHere (part b) → IsHere (part now)) × AreHere part births

-- so it is of each process of a crew, and of each one that waits to enter it
pub record CrewHere {B : Type 0} (part : PartOf B) (c : Crew B) : Type 0 where
  pub members : (p : Pid) (role : B × Next) → roles c p ≡ Some role → IsHere (part role.0)
  pub waiting : AreHere part (waiting c)

abbrev pub CrewsHere : {B : Type 0} → PartOf B → List (Crew B) → Type 0
CrewsHere {B} part crews = (d : ℕ) (c : Crew B) → d < length crews → CrewHere part (slice_index_or crews d c)

-- what keeps a crew so ----------------------------------------------------------------

-- It is so of a crew of nobody. A process that is so may enter it. A step keeps it, a step with a turn, and beginning again.
pub record CrewStaysHere {B : Type 0} (answers : Answers B) (part : PartOf B) : Type 0 where
  pub nobody : (c : Crew B) → ((p : Pid) → roles c p ≡ None) → waiting c ≡ [] → CrewHere part c
  pub enter : (b : B) (first : Next) (old new : Crew B) (d e : ShardState) (result : Result Pid Fault)
      → Enters b first old d result new e → IsHere (part b) → CrewHere part old → CrewHere part new
  pub step : (past : Past) (old new : Crew B) (d e : ShardState) → CrewDoes answers old d new e
      → Upholds (Keeps past part) old d → CrewHere part old → CrewHere part new
  pub work : (past : Past) (old new : Crew B) (budget : ℕ) (d e : DeskState) (turned : Turned)
      → CrewWorks answers budget old d turned new e → Upholds (Keeps past part) old d.shard → CrewHere part old
      → CrewHere part new
  pub begins : (old new : Crew B) → CrewBegins old new → CrewHere part old → CrewHere part new

-- A run of the crews of a node keeps it, each on a thread of its own or in rounds. So does each crew that begins again, as
-- behind a pause. Turning the node changes no crew.
pub record CrewsStayHere {B : Type 0} (answers : Answers B) (part : PartOf B) (lets : BeginRelation (Crew B)) : Type 0 where
  pub run : (past : Past) (turns budget : ℕ) (old new : List DeskState) (crews later : List (Crew B))
      (result : Result (Unit {0}) RunFault)
      → RunsNode (AllWork lets (CrewsDo answers) turns budget) old crews result new later
      → AllUphold (Keeps past part) crews old → CrewsHere part crews → CrewsHere part later
  pub rounds : (past : Past) (turns budget : ℕ) (old new : List DeskState) (crews later : List (Crew B))
      (result : Result (Unit {0}) RunFault)
      → RunsNode (λ before after. AllWork lets (CrewsDo answers) turns budget before after
      × InRounds lets (CrewsDo answers) turns budget before after) old crews result new later
      → AllUphold (Keeps past part) crews old → CrewsHere part crews → CrewsHere part later
  pub begin : (crews later : List (Crew B)) → EachCrew CrewBegins crews later → CrewsHere part crews
      → CrewsHere part later

module _ {B S : Type 0} (part : PartOf B) (Takes Refuses : S → List Stamped → S → Type 0) where
  -- The end of an epoch keeps it, and where it halts. So does going on there, whatever comes of it.
  pub record EpochsStayHere : Type 0 where
    pub ends : (history : List Stamped) (desks new : List DeskState) (crews later : List (Crew B)) (sink after : S)
        → EndsEpoch Takes Refuses history desks crews sink new later after → CrewsHere part crews
        → CrewsHere part later
    pub halts : (desks : List DeskState) (crews later : List (Crew B)) (halted : Halted) (sink after : S)
        → HaltsEpoch Takes Refuses desks crews sink halted later after → CrewsHere part crews → CrewsHere part later
    pub goes_on : (halted : Halted) (crews later : List (Crew B)) (result : Result (List DeskState) Halted)
        (sink after : S) → GoesOnAs Takes Refuses halted crews sink result later after → CrewsHere part crews
        → CrewsHere part later

  -- a run of epochs keeps it, and where it halts
  pub record RunsStayHere (Runs : Plan → ℕ → List (DeskState × Crew B) → List (DeskState × Crew B) → Type 0)
      : Type 0 where
    pub passes : (past : Past) (plan : Plan) (most : ℕ) (why : Outcome) (old new : Manned B S)
        → PassesAsOne (Runs plan) plan Takes Refuses most why old new → AllHold part past old.crews old.desks
        → CrewsHere part old.crews → CrewsHere part new.crews
    pub halts : (past : Past) (plan : Plan) (most : ℕ) (old : Manned B S) (halted : Halted) (later : List (Crew B))
        (after : S) → HaltsRun (Runs plan) plan Takes Refuses most old halted later after
        → AllHold part past old.crews old.desks → CrewsHere part old.crews → CrewsHere part later

-- and a run until nothing is left to do, however it ends
abbrev pub RunUntilIdleStaysHere : {B : Type 0} → PartOf B
    → (ℕ → ℕ → List (DeskState × Crew B) → List (DeskState × Crew B) → Type 0) → Type 0
RunUntilIdleStaysHere {B} part Runs =
    (past : Past) (budget most : ℕ) (old new : Worked (Crew B)) (result : Result Ended RunFault)
    → RunsUntilIdle (Runs budget) budget most old result new → AllHold part past old.works old.desks
    → CrewsHere part old.works → CrewsHere part new.works

-- what they are promised --------------------------------------------------------------

-- Each child of such a supervisor that is to live does, as the theorems on children say, and that the supervisor does not
-- wait for one is no premise.
abbrev pub HereLive : {B : Type 0} → Past → PartOf B → Crew B → ShardState → GatheredState → Type 0
HereLive past part c d g = OfSupervisors part c d g (λ s next p merged. EachLives past s next p d g merged)

-- so it is on each desk of a node
abbrev pub AllHereLive : {B : Type 0} → Past → PartOf B → List (Crew B) → GatheredState → Type 0
AllHereLive {B} past part crews g =
    (d : ℕ) (c : Crew B) (x : ShardState) → d < length g.shards
    → HereLive past part (slice_index_or crews d c) (slice_index_or g.shards d x) g

-- in a node that is still, of one crew of which nobody has anything to do
abbrev pub QuietHereLive : {B : Type 0} → PartOf B → Type 0
QuietHereLive {B} part =
    (past : Past) (c : Crew B) (d : ShardState) (g : GatheredState) → IsGathered g → IsStillNode g
    → d.number < length g.shards → d ≡ slice_index_or g.shards d.number d → Upholds (Keeps past part) c d
    → IsIdle c d → CrewHere part c → HereLive past part c d g

-- and of all crews of the node
abbrev pub GatheredHereLive : {B : Type 0} → PartOf B → Type 0
GatheredHereLive {B} part =
    (past : Past) (crews : List (Crew B)) (desks : List DeskState) (g : GatheredState)
    → AllUphold (Keeps past part) crews desks → AreIdle crews desks → g.shards ≡ all_shards desks → IsGathered g
    → IsStillNode g → CrewsHere part crews → AllHereLive past part crews g

-- where a run of epochs halted, once no letter is left over and nobody has anything to do
abbrev pub HeldHereLive : {B : Type 0} → PartOf B → Type 0
HeldHereLive {B} part =
    (past : Past) (crews : List (Crew B)) (g : GatheredState) → NothingLeft g → AreIdleIn crews g
    → AllHoldIn part past crews g → CrewsHere part crews → AllHereLive past part crews g

-- at the end of an epoch that ends since nothing is left to do
abbrev pub IdleHereLive : {B S : Type 0} → PartOf B → (S → List Stamped → S → Type 0) → (S → List Stamped → S → Type 0)
    → (Plan → ℕ → List (DeskState × Crew B) → List (DeskState × Crew B) → Type 0) → Type 0
IdleHereLive {B} {S} part Takes Refuses Runs =
    (past : Past) (plan : Plan) (history : List Stamped) (old new : Manned B S)
    (passes : PassesOne (Runs plan) plan Takes Refuses Idle history old new) → AllHold part past old.crews old.desks
    → CrewsHere part old.crews → AllHereLive past part passes.ran.works passes.ends.over.settled
