-- A node that runs epoch behind epoch.
use Rattle.std.specs.Prelude.{◌≡◌, ◌≢◌, ℕ, zero, suc, ◌<◌, List, [], ◌++◌, length, max, slice_index_or, Option, Some, None}
use Rattle.std.specs.Prelude.{Result, Ok, Err}
use Rattle.pt_events.specs.declared.event.Stamped.{Stamped}
use Rattle.pt_desk.specs.DeskState.{DeskState}
use Rattle.pt_workers.specs.declared.run_fault.RunFault.{RunFault}
use Rattle.pt_workers.specs.declared.run_fault.RunFault.TheVariants as fault
use Rattle.pt_workers.specs.Stillness.{AreStill}
use Rattle.pt_workers.specs.declared.stillness.Rested.{Rested}
use Rattle.pt_workers.specs.declared.stillness.Stopped as stop
use Rattle.pt_node.specs.Pasts.{IsOneHistory}
use Rattle.pt_crew.specs.declared.crew.Crew.{Crew}
use Rattle.pt_epochs.specs.declared.epochs.Plan.{Plan}
use Rattle.pt_epochs.specs.declared.epochs.Pause.{Pause}
use Rattle.pt_epochs.specs.declared.epochs.Pause.TheVariants.{Idle, Stopped, Full, Told, Asked, Spent}
use Rattle.pt_epochs.specs.declared.epochs.Outcome.{Outcome}
use Rattle.pt_epochs.specs.declared.epochs.Outcome.TheVariants as outcome
use Rattle.pt_epochs.specs.declared.halted.Halted.{Halted}
use Rattle.pt_epochs.specs.declared.halted.Halted.TheVariants.{Running, Turning}
use Rattle.pt_epochs.specs.Idle.{AtRest, EndsBy, Legs, NoneHasWork, Worked, leg_turns}
use Rattle.pt_epochs.specs.Epochs.{EndsEpoch, HaltsEpoch}

-- the journal of a desk has more than so many events
abbrev pub IsTooLong : ℕ → List DeskState → Type 0
IsTooLong events desks =
    (d : ℕ) × (x : DeskState) × (d < length desks) × (events < length (slice_index_or desks d x).shard.journal)

-- the crews go on: nothing is on its way, they are not at rest, and no journal is too long
pub record GoesFurther {B : Type 0} (events : ℕ) (w : Worked (Crew B)) : Type 0 where
  pub still : AreStill w.desks
  pub busy : ¬ AtRest w
  pub short : ¬ IsTooLong events w.desks

-- Whether crews pause, and why, where a turn was stopped or none was: they do where it was, or nobody has anything to
-- do, or a journal is too long, and else as the outside asks.
abbrev pub PausesAs : {B : Type 0} → ℕ → List (Crew B) → List DeskState → Option stop.Stopped → Option Pause → Type 0
PausesAs events crews desks stopped None =
    (stopped ≡ None) × (¬ NoneHasWork crews desks) × (¬ IsTooLong events desks)
PausesAs events crews desks stopped (Some Idle) = (stopped ≡ None) × NoneHasWork crews desks
PausesAs events crews desks stopped (Some (Stopped s)) = stopped ≡ Some s
PausesAs events crews desks stopped (Some Full) =
    (stopped ≡ None) × (¬ NoneHasWork crews desks) × IsTooLong events desks
PausesAs events crews desks stopped (Some Told) =
    (stopped ≡ None) × (¬ NoneHasWork crews desks) × (¬ IsTooLong events desks)
PausesAs events crews desks stopped (Some Asked) =
    (stopped ≡ None) × (¬ NoneHasWork crews desks) × (¬ IsTooLong events desks)
PausesAs events crews desks stopped (Some Spent) = ⊥

-- so they are behind the last leg of an epoch
abbrev pub EndsPaused : {B : Type 0} → ℕ → Pause → Rested → Worked (Crew B) → Type 0
EndsPaused events Idle did w = (did.stopped ≡ None) × AtRest w
EndsPaused events (Stopped s) did w = (did.stopped ≡ Some s) × (¬ AtRest w)
EndsPaused events Full did w = (did.stopped ≡ None) × AreStill w.desks × (¬ AtRest w) × IsTooLong events w.desks
EndsPaused events _ did w = (did.stopped ≡ None) × GoesFurther events w

module _ {B : Type 0} (Runs : ℕ → List (DeskState × Crew B) → List (DeskState × Crew B) → Type 0) (plan : Plan) where
  -- the crews run, in legs, until they pause, behind the first leg behind which they have to
  abbrev pub RunsToPause : Worked (Crew B) → Result Pause RunFault → Worked (Crew B) → Type 0
  RunsToPause old (Ok Spent) new =
      (legs : List ℕ) × Legs Runs plan.budget (GoesFurther plan.events) legs old new
      × (leg_turns legs ≡ max plan.turns 1) × GoesFurther plan.events new
  RunsToPause old (Ok pause) new =
      EndsBy Runs plan.budget (GoesFurther plan.events) (max plan.turns 1) old (EndsPaused plan.events pause) new
  RunsToPause old (Err fault.Works) new = (length old.works ≢ length old.desks) × (new ≡ old)
  RunsToPause old (Err fault.Memory) new =
      (length old.works ≡ length old.desks)
      × ((legs : List ℕ) × Legs Runs plan.budget (GoesFurther plan.events) legs old new
      × (leg_turns legs < max plan.turns 1))

-- a node with its crews, and the sink
pub record Manned (B S : Type 0) : Type 0 where
  pub desks : List DeskState
  pub crews : List (Crew B)
  pub sink : S

abbrev pub worked : {B S : Type 0} → Manned B S → Worked (Crew B)
worked m = record { desks = m.desks; works = m.crews }

-- why a run ends behind an epoch that ended so, if it does
abbrev pub outcome_of : Pause → Option Outcome
outcome_of Idle = Some outcome.Idle
outcome_of Told = Some outcome.Told
outcome_of _ = None

module _ {B S : Type 0} (Runs : ℕ → List (DeskState × Crew B) → List (DeskState × Crew B) → Type 0) (plan : Plan)
    (Takes Refuses : S → List Stamped → S → Type 0) where
  -- the crews run until they pause, and then the epoch ends
  pub record PassesOne (pause : Pause) (history : List Stamped) (old new : Manned B S) : Type 0 where
    pub ran : Worked (Crew B)
    pub runs : RunsToPause Runs plan (worked old) (Ok pause) ran
    pub still : AreStill ran.desks
    pub ends : EndsEpoch Takes Refuses history ran.desks ran.works old.sink new.desks new.crews new.sink

  -- an epoch halts: as the crews run, or as it ends
  abbrev pub HaltsOne : Manned B S → Halted → List (Crew B) → S → Type 0
  HaltsOne old (Running node refused) later after =
      RunsToPause Runs plan (worked old) (Err refused) (record { desks = node; works = later }) × (after ≡ old.sink)
  HaltsOne old (Turning node s) later after =
      RunsToPause Runs plan (worked old) (Ok (Stopped s)) (record { desks = node; works = later })
      × (after ≡ old.sink)
  HaltsOne old halted later after =
      (ran : Worked (Crew B)) × (pause : Pause) × RunsToPause Runs plan (worked old) (Ok pause) ran
      × HaltsEpoch Takes Refuses ran.desks ran.works old.sink halted later after

  -- so many epochs, one behind the other, behind each of which the run goes on, and all that went to the sink
  abbrev pub PassEach : ℕ → List Stamped → Manned B S → Manned B S → Type 0
  PassEach zero all old new = (all ≡ []) × (new ≡ old)
  PassEach (suc n) all old new =
      (before : List Stamped) × (history : List Stamped) × (mid : Manned B S) × (pause : Pause)
      × (all ≡ before ++ history) × PassEach n before old mid × PassesOne pause history mid new
      × (outcome_of pause ≡ None)

  -- and one more, behind which the run ends
  pub record EndsWithOne (n : ℕ) (why : Outcome) (all : List Stamped) (old new : Manned B S) : Type 0 where
    pub before : List Stamped
    pub history : List Stamped
    pub mid : Manned B S
    pub pause : Pause
    pub all_is : all ≡ before ++ history
    pub passed : PassEach n before old mid
    pub last : PassesOne pause history mid new
    pub why_is : outcome_of pause ≡ Some why

  -- a run of epochs: as many as there were to be, or up to the first behind which it ends
  abbrev pub EndsRun : ℕ → Outcome → List Stamped → Manned B S → Manned B S → Type 0
  EndsRun most outcome.Counted all old new = PassEach most all old new
  EndsRun most why all old new = (n : ℕ) × (n < most) × EndsWithOne n why all old new

  -- it halts in one of them
  pub record HaltsRun (most : ℕ) (old : Manned B S) (halted : Halted) (later : List (Crew B)) (after : S) : Type 0 where
    pub n : ℕ
    pub within : n < most
    pub before : List Stamped
    pub mid : Manned B S
    pub passed : PassEach n before old mid
    pub halts : HaltsOne mid halted later after
    pub whole : IsOneHistory before old.desks mid.desks

  -- all that went to the sink, one history behind the other, is one history with what was before
  pub record PassesAsOne (most : ℕ) (why : Outcome) (old new : Manned B S) : Type 0 where
    pub all : List Stamped
    pub passes : EndsRun most why all old new
    pub whole : IsOneHistory all old.desks new.desks
