-- The crews of a node, each over the desk at its place.
use Rattle.std.specs.Prelude.{◌≡◌, ℕ, ◌<◌, ◌==◌, ◌&&◌, Bool, true, List, length, slice_index_or, Result}
use Rattle.pt_shard.specs.ShardState.{ShardState}
use Rattle.pt_desk.specs.DeskState.{DeskState}
use Rattle.pt_workers.specs.Running.{AllWork, BeginRelation, InRounds, WorkRelation, step_alone}
use Rattle.pt_workers.specs.NodeRunning.{RunsNode}
use Rattle.pt_workers.specs.Stillness.{RunsRounds}
use Rattle.pt_workers.specs.declared.run_fault.RunFault.{RunFault}
use Rattle.pt_workers.specs.declared.stillness.Rested.{Rested}
use Rattle.pt_crew.specs.declared.crew.Crew.{Crew}
use Rattle.pt_behaviour.specs.Behaving.{Answers}
use Rattle.pt_crew.specs.Crews.{Attends, CrewDoes, queue, read_events}
use Rattle.pt_behaviour.specs.Upholding.{Relation}
use Rattle.pt_crew.specs.Upholding.{Upholds}

-- nobody stands in its queue, and all that happened on its desk was read
abbrev pub is_idle : {B : Type 0} → Crew B → ShardState → Bool
is_idle c d = (length (queue c) == 0) && (read_events c == length d.journal)

-- so it is of each crew
pub record AreIdle {B : Type 0} (crews : List (Crew B)) (desks : List DeskState) : Type 0 where
  pub count : length crews ≡ length desks
  pub each : (d : ℕ) (c : Crew B) (x : DeskState) → d < length desks
      → is_idle (slice_index_or crews d c) (slice_index_or desks d x).shard ≡ true

-- what a run of crews promises of each step. What a turn of its desk did changes nothing of a crew
abbrev pub CrewsDo : {B : Type 0} → Answers B → WorkRelation (Crew B)
CrewsDo answers = step_alone (λ old d new e. CrewDoes answers old d.shard new e.shard)

-- the crew is one of the desk, and its behaviours uphold what they have to
pub record UpholdsOn {B : Type 0} (stands : Relation B) (c : Crew B) (d : ShardState) : Type 0 where
  pub attends : Attends c d
  pub upholds : Upholds stands c d

-- so it is of each crew
pub record AllUphold {B : Type 0} (stands : Relation B) (crews : List (Crew B)) (desks : List DeskState) : Type 0 where
  pub count : length crews ≡ length desks
  pub each : (d : ℕ) (c : Crew B) (x : DeskState) → d < length desks
      → UpholdsOn stands (slice_index_or crews d c) (slice_index_or desks d x).shard

-- a run of the crews keeps that, each on a thread of its own
abbrev pub RunUpholds : {B : Type 0} → Answers B → Relation B → BeginRelation (Crew B) → Type 0
RunUpholds {B} answers stands lets =
    (turns budget : ℕ) (old new : List DeskState) (crews later : List (Crew B)) (result : Result (Unit {0}) RunFault)
    → RunsNode (AllWork lets (CrewsDo answers) turns budget) old crews result new later
    → AllUphold stands crews old → AllUphold stands later new

-- and in rounds on one thread
abbrev pub RoundsUphold : {B : Type 0} → Answers B → Relation B → BeginRelation (Crew B) → Type 0
RoundsUphold {B} answers stands lets =
    (turns budget : ℕ) (old new : List DeskState) (crews later : List (Crew B)) (result : Result (Unit {0}) RunFault)
    → RunsNode (λ before after. AllWork lets (CrewsDo answers) turns budget before after
    × InRounds lets (CrewsDo answers) turns budget before after) old crews result new later
    → AllUphold stands crews old → AllUphold stands later new

-- and turning the node until it is still, or a turn is stopped
abbrev pub RestUpholds : {B : Type 0} → Relation B → Type 0
RestUpholds {B} stands =
    (budget : ℕ) (old new : List DeskState) (crews : List (Crew B)) (did : Rested) → RunsRounds budget old did new
    → AllUphold stands crews old → AllUphold stands crews new
