-- Crews that run until they are to pause.
use Rattle.std.proofs.Common.{◌≡◌, ℕ, ◌-◌, ◌<◌, ◌≤◌, List, max, Option, Some, None, Result, Ok, Err, sym, subst, arith}
use Rattle.pt_desk.specs.DeskState.{DeskState}
use Rattle.pt_workers.specs.declared.run_fault.RunFault.{RunFault}
use Rattle.pt_workers.specs.declared.run_fault.RunFault.TheVariants as fault
use Rattle.pt_workers.specs.declared.stillness.Rested.{Rested}
use Rattle.pt_workers.specs.declared.stillness.Stopped.{Stopped as StoppedTurn}
use Rattle.pt_crew.specs.declared.crew.Crew.{Crew}
use Rattle.pt_epochs.specs.declared.epochs.Plan.{Plan}
use Rattle.pt_epochs.specs.declared.epochs.Pause.{Pause}
use Rattle.pt_epochs.specs.declared.epochs.Pause.TheVariants.{Idle, Stopped, Full, Told, Asked, Spent}
use Rattle.pt_epochs.specs.Idle.{DoneLeg, Legs, RunsLeg, Worked, leg_turns}
use Rattle.pt_epochs.specs.Running.{EndsPaused, GoesFurther, PausesAs, RunsToPause}
use Rattle.pt_epochs.proofs.Legs.{SoFar, Underway, ended, one_more, refused_then, spent}
use Rattle.pt_epochs.proofs.Idling.{goes, rests, stopped_goes}

-- crews and desks that are the same pause alike
pauses_alike : {B : Type 0} (events : ℕ) (stopped : Option StoppedTurn) (pause : Option Pause) (crews later : List (Crew B)) (desks new : List DeskState)
    → crews ≡ later → desks ≡ new → PausesAs events crews desks stopped pause → PausesAs events later new stopped pause
pauses_alike events stopped pause crews later desks new same_crews same_desks h =
    subst (λ ks. PausesAs events ks new stopped pause) same_crews (subst (λ ds. PausesAs events crews ds stopped pause) same_desks h)

module _ {B : Type 0} (Runs : ℕ → List (DeskState × Crew B) → List (DeskState × Crew B) → Type 0) (plan : Plan) (old : Worked (Crew B)) where
  abbrev pub Going : ℕ → ℕ → Worked (Crew B) → Type 0
  Going leg left now = Underway Runs plan.budget (GoesFurther plan.events) (max plan.turns 1) old leg left now

  abbrev Far : ℕ → Worked (Crew B) → Type 0
  Far left now = SoFar Runs plan.budget (GoesFurther plan.events) (max plan.turns 1) old left now

  failed : (left turns : ℕ) (now : Worked (Crew B)) (refused : RunFault) (new : Worked (Crew B)) → Far left now → RunsLeg Runs plan.budget turns now (Err refused) new → 0 < left → RunsToPause Runs plan old (Err refused) new
  failed left turns now fault.Works new far h more = absurd h
  failed left turns now fault.Memory new far h more =
      (far.first, subst (λ (w : Worked (Crew B)). (legs : List ℕ) × Legs Runs plan.budget (GoesFurther plan.events) legs old w × (leg_turns legs < max plan.turns 1)) (sym h) (refused_then far more))

  module _ (left turns : ℕ) (now : Worked (Crew B)) (did : Rested) (new : Worked (Crew B)) (far : Far left now) (done : DoneLeg Runs plan.budget turns now did new) (le : turns ≤ left) where
    pauses : 0 < turns → (pause : Pause) → PausesAs plan.events new.works new.desks did.stopped (Some pause) → RunsToPause Runs plan old (Ok pause) new
    pauses some Spent h = absurd h
    pauses some Idle h = ended (EndsPaused plan.events Idle) far done (h.0, rests done h.0 h.1) le some
    pauses some (Stopped s) h = ended (EndsPaused plan.events (Stopped s)) far done (h, stopped_goes done h) le some
    pauses some Full h = ended (EndsPaused plan.events Full) far done (h.0, done.still h.0, goes h.1, h.2) le some
    pauses some Told h = ended (EndsPaused plan.events Told) far done (h.0, record { still = done.still h.0; busy = goes h.1; short = h.2 }) le some
    pauses some Asked h = ended (EndsPaused plan.events Asked) far done (h.0, record { still = done.still h.0; busy = goes h.1; short = h.2 }) le some

    goes_on : PausesAs plan.events new.works new.desks did.stopped None → Far (left - turns) new
    goes_on h = one_more far done h.0 (record { still = done.still h.0; busy = goes h.1; short = h.2 }) le

module _ {B : Type 0} {Runs : ℕ → List (DeskState × Crew B) → List (DeskState × Crew B) → Type 0} (plan : Plan) {old : Worked (Crew B)} {leg left : ℕ} {now : Worked (Crew B)} where
  pub pause_failed : (result : Result Pause RunFault) (refused : RunFault) (turns : ℕ) (new : Worked (Crew B)) → Going Runs plan old leg left now
      → RunsLeg Runs plan.budget turns now (Err refused) new → 0 < left → result ≡ Err refused → RunsToPause Runs plan old result new
  pause_failed result refused turns new far h more is = subst (λ r. RunsToPause Runs plan old r new) (sym is) (failed Runs plan old left turns now refused new far.so_far h more)

  -- the crews pause behind a leg
  pub paused : {turns : ℕ} {did : Rested} {new : Worked (Crew B)} {crews : List (Crew B)} {desks : List DeskState} (pause : Pause) → Going Runs plan old leg left now → DoneLeg Runs plan.budget turns now did new
      → crews ≡ new.works → desks ≡ new.desks → PausesAs plan.events crews desks did.stopped (Some pause) → turns ≤ left → 0 < turns → RunsToPause Runs plan old (Ok pause) new
  paused {turns} {did} {new} {crews} {desks} pause far done same_crews same_desks h le some =
      pauses Runs plan old left turns now did new far.so_far done le some pause (pauses_alike plan.events did.stopped (Some pause) crews new.works desks new.desks same_crews same_desks h)

  -- or they go on
  pub goes_far : {turns next : ℕ} {did : Rested} {new : Worked (Crew B)} {crews : List (Crew B)} {desks : List DeskState} → Going Runs plan old leg left now → DoneLeg Runs plan.budget turns now did new
      → crews ≡ new.works → desks ≡ new.desks → PausesAs plan.events crews desks did.stopped None → 0 < next → turns ≤ left → Going Runs plan old next (left - turns) new
  goes_far {turns} {next} {did} {new} {crews} {desks} far done same_crews same_desks h some le = record {
    so_far = goes_on Runs plan old left turns now did new far.so_far done le (pauses_alike plan.events did.stopped None crews new.works desks new.desks same_crews same_desks h);
    some = some;
  }

  -- or these were all turns
  pub all_spent : Going Runs plan old leg left now → left ≡ 0 → RunsToPause Runs plan old (Ok Spent) now
  all_spent far none = spent far.so_far none (omega arith)
