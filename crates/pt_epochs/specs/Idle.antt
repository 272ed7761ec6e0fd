-- Crews that run until nothing is left to do.
use Rattle.std.specs.Prelude.{◌≡◌, ◌≢◌, ℕ, ◌+◌, ◌<◌, ◌≤◌, Bool, List, [], ◌∷◌, length, max, slice_index_or, Some, None, IfSome}
use Rattle.std.specs.Prelude.{Result, Ok, Err}
use Rattle.pt_desk.specs.DeskState.{DeskState}
use Rattle.pt_workers.specs.NodeRunning.{RunsPaired}
use Rattle.pt_workers.specs.Stillness.{AreStill, RunsRounds, StoppedAt}
use Rattle.pt_workers.specs.declared.run_fault.RunFault.{RunFault}
use Rattle.pt_workers.specs.declared.run_fault.RunFault.TheVariants.{Works, Memory}
use Rattle.pt_workers.specs.declared.stillness.Rested.{Rested}
use Rattle.pt_crew.specs.declared.crew.Crew.{Crew}
use Rattle.pt_behaviour.specs.Behaving.{Answers}
use Rattle.pt_crew.specs.Crews.{waiting}
use Rattle.pt_crew.specs.Running.{AreIdle, CrewsDo}
use Rattle.pt_epochs.specs.Driving.{AllWorkLet}
use Rattle.pt_epochs.specs.declared.idle.Ended.{Ended}
use Rattle.pt_epochs.specs.declared.idle.Ended.TheVariants.{Idle, Stopped, Spent}

-- nobody waits to enter
abbrev pub AllEntered : {B : Type 0} → List (Crew B) → Type 0
AllEntered {B} crews =
    (d : ℕ) (c : Crew B) → d < length crews → length (waiting (slice_index_or crews d c)) ≡ 0

-- nobody has anything to do, and nobody waits to enter
pub record NoneHasWork {B : Type 0} (crews : List (Crew B)) (desks : List DeskState) : Type 0 where
  pub idle : AreIdle crews desks
  pub entered : AllEntered crews

-- the desks of a node, with the works at their places
pub record Worked (W : Type 0) : Type 0 where
  pub desks : List DeskState
  pub works : List W

-- so it is of these, and nothing is on its way
pub record AtRest {B : Type 0} (w : Worked (Crew B)) : Type 0 where
  pub none : NoneHasWork w.works w.desks
  pub still : AreStill w.desks

module _ {W : Type 0} (Runs : ℕ → List (DeskState × W) → List (DeskState × W) → Type 0) (budget : ℕ) where
  -- a leg: the works run for so many turns, and then the desks are turned until nothing is on its way, or a turn was
  -- stopped
  pub record Leg (turns : ℕ) (old : Worked W) (did : Rested) (new : Worked W) : Type 0 where
    pub ran : List DeskState
    pub runs : RunsPaired (Runs turns) old.desks old.works ran new.works
    pub rests : RunsRounds (max budget 1) ran did new.desks

  -- legs one behind the other, the last in front, each of so many turns; no turn was stopped, and after each of them
  -- that is so of the desks and their works
  abbrev pub Legs : (Worked W → Type 0) → List ℕ → Worked W → Worked W → Type 0
  Legs Goes [] old new = new ≡ old
  Legs Goes (turns ∷ before) old new =
      (mid : Worked W) × (did : Rested) × Legs Goes before old mid × Leg turns mid did new × (did.stopped ≡ None)
      × Goes new

  -- what is known behind a leg
  pub record DoneLeg (turns : ℕ) (old : Worked W) (did : Rested) (new : Worked W) : Type 0 where
    pub leg : Leg turns old did new
    pub counted : length new.works ≡ length new.desks
    pub still : did.stopped ≡ None → AreStill new.desks
    pub stopped : IfSome did.stopped (λ s. StoppedAt (max budget 1) s new.desks)

  -- it was done; or there was no memory, and nothing has changed
  abbrev pub RunsLeg : ℕ → Worked W → Result Rested RunFault → Worked W → Type 0
  RunsLeg turns old (Ok did) new = DoneLeg turns old did new
  RunsLeg turns old (Err Works) new = ⊥
  RunsLeg turns old (Err Memory) new = new ≡ old

-- of so many turns all together
abbrev pub leg_turns : List ℕ → ℕ
leg_turns [] = 0
leg_turns (turns ∷ before) = turns + leg_turns before

module _ {W : Type 0} (Runs : ℕ → List (DeskState × W) → List (DeskState × W) → Type 0) (budget : ℕ)
    (Goes : Worked W → Type 0) where
  -- such legs, and one more, which ends so
  pub record EndsBy (most : ℕ) (old : Worked W) (Ends : Rested → Worked W → Type 0) (new : Worked W) : Type 0 where
    pub before : List ℕ
    pub last : Worked W
    pub legs : Legs Runs budget Goes before old last
    pub turns : ℕ
    pub did : Rested
    pub leg : Leg Runs budget turns last did new
    pub some : 0 < turns
    pub within : turns + leg_turns before ≤ most
    pub ends : Ends did new

-- somebody has something to do, or waits to enter, or something is on its way
abbrev pub IsGoing : {B : Type 0} → Worked (Crew B) → Type 0
IsGoing w = ¬ AtRest w

-- what a leg runs: the crews take these turns, as far as they may begin
abbrev pub InTurns : {B : Type 0} → Answers B → (DeskState × Crew B → ℕ → Bool → Type 0) → ℕ → ℕ
    → List (DeskState × Crew B) → List (DeskState × Crew B) → Type 0
InTurns answers lets budget turns old new = AllWorkLet lets (CrewsDo answers) turns budget old new

-- The crews run, in legs, for at most so many turns. They end idle exactly where they are at rest: nobody has anything
-- to do and nothing is on its way; and they do so after the first leg behind which it is so.
abbrev pub RunsUntilIdle : {B : Type 0} → (ℕ → List (DeskState × Crew B) → List (DeskState × Crew B) → Type 0) → ℕ → ℕ
    → Worked (Crew B) → Result Ended RunFault → Worked (Crew B) → Type 0
RunsUntilIdle Runs budget most old (Ok Idle) new =
    EndsBy Runs budget IsGoing most old (λ did w. (did.stopped ≡ None) × AtRest w) new
RunsUntilIdle Runs budget most old (Ok (Stopped s)) new =
    EndsBy Runs budget IsGoing most old (λ did w. (did.stopped ≡ Some s) × IsGoing w) new
RunsUntilIdle Runs budget most old (Ok Spent) new =
    (legs : List ℕ) × Legs Runs budget IsGoing legs old new × (leg_turns legs ≡ most) × IsGoing new
RunsUntilIdle Runs budget most old (Err Works) new = (length old.works ≢ length old.desks) × (new ≡ old)
RunsUntilIdle Runs budget most old (Err Memory) new =
    (length old.works ≡ length old.desks)
    × ((legs : List ℕ) × Legs Runs budget IsGoing legs old new × (leg_turns legs < most))
