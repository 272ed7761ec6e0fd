-- Crews that run until nothing is left to do.
use Rattle.std.proofs.Common.{◌≡◌, ℕ, ◌-◌, ◌<◌, ◌≤◌, List, max, Some, None, Result, Ok, Err, sym, subst}
use Rattle.std.specs.Prelude.{IfSome}
use Rattle.pt_desk.specs.DeskState.{DeskState}
use Rattle.pt_workers.specs.Stillness.{StoppedAt}
use Rattle.pt_workers.specs.declared.run_fault.RunFault.{RunFault}
use Rattle.pt_workers.specs.declared.run_fault.RunFault.TheVariants as fault
use Rattle.pt_workers.specs.declared.stillness.Rested.{Rested}
use Rattle.pt_workers.specs.declared.stillness.Stopped.{Stopped}
use Rattle.pt_crew.specs.declared.crew.Crew.{Crew}
use Rattle.pt_epochs.specs.declared.idle.Ended.{Ended}
use Rattle.pt_epochs.specs.declared.idle.Ended.TheVariants as ended_as
use Rattle.pt_epochs.specs.Idle.{AtRest, DoneLeg, IsGoing, Legs, NoneHasWork, RunsLeg, RunsUntilIdle, Worked, leg_turns}
use Rattle.pt_epochs.proofs.Legs.{SoFar, Underway, ended, not_still, one_more, refused_then}

module _ {B : Type 0} {Runs : ℕ → List (DeskState × Crew B) → List (DeskState × Crew B) → Type 0} {budget turns : ℕ} {now : Worked (Crew B)} {did : Rested} {new : Worked (Crew B)} where
  -- behind a leg that was stopped the crews are not at rest
  pub stopped_goes : {s : Stopped} → DoneLeg Runs budget turns now did new → did.stopped ≡ Some s → IsGoing new
  stopped_goes {s} done is rest =
      not_still (max budget 1) s new.desks (subst (λ o. IfSome o (λ (t : Stopped). StoppedAt (max budget 1) t new.desks)) is done.stopped) rest.still

  -- and else they are where none of them has work
  pub rests : DoneLeg Runs budget turns now did new → did.stopped ≡ None → NoneHasWork new.works new.desks → AtRest new
  rests done on none = record { none = none; still = done.still on }

pub goes : {B : Type 0} {new : Worked (Crew B)} → (NoneHasWork new.works new.desks → ⊥) → IsGoing new
goes work rest = work rest.none

same_work : {B : Type 0} (P : Type 0 → Type 0) (crews later : List (Crew B)) (desks new : List DeskState) → crews ≡ later → desks ≡ new → P (NoneHasWork crews desks) → P (NoneHasWork later new)
same_work P crews later desks new same_crews same_desks h =
    subst (λ ks. P (NoneHasWork ks new)) same_crews (subst (λ ds. P (NoneHasWork crews ds)) same_desks h)

module _ {B : Type 0} (Runs : ℕ → List (DeskState × Crew B) → List (DeskState × Crew B) → Type 0) (budget most : ℕ) (old : Worked (Crew B)) where
  failed : (left turns : ℕ) (now : Worked (Crew B)) (refused : RunFault) (new : Worked (Crew B)) → SoFar Runs budget IsGoing most old left now → RunsLeg Runs budget turns now (Err refused) new → 0 < left
      → RunsUntilIdle Runs budget most old (Err refused) new
  failed left turns now fault.Works new far h more = absurd h
  failed left turns now fault.Memory new far h more =
      (far.first, subst (λ (w : Worked (Crew B)). (legs : List ℕ) × Legs Runs budget IsGoing legs old w × (leg_turns legs < most)) (sym h) (refused_then far more))

module _ {B : Type 0} {Runs : ℕ → List (DeskState × Crew B) → List (DeskState × Crew B) → Type 0} {budget most leg left : ℕ} {old now : Worked (Crew B)} where
  pub idle_failed : (result : Result Ended RunFault) (refused : RunFault) (turns : ℕ) (new : Worked (Crew B)) → Underway Runs budget IsGoing most old leg left now
      → RunsLeg Runs budget turns now (Err refused) new → 0 < left → result ≡ Err refused → RunsUntilIdle Runs budget most old result new
  idle_failed result refused turns new far h more is =
      subst (λ r. RunsUntilIdle Runs budget most old r new) (sym is) (failed Runs budget most old left turns now refused new far.so_far h more)

  module _ {turns : ℕ} {did : Rested} {new : Worked (Crew B)} where
    -- a turn was stopped
    pub idle_stopped : {s : Stopped} → Underway Runs budget IsGoing most old leg left now → DoneLeg Runs budget turns now did new → did.stopped ≡ Some s → turns ≤ left → 0 < turns
        → RunsUntilIdle Runs budget most old (Ok (ended_as.Stopped s)) new
    idle_stopped {s} far done is le some =
        ended (λ (did : Rested) (w : Worked (Crew B)). (did.stopped ≡ Some s) × IsGoing w) far.so_far done (is, stopped_goes done is) le some

    -- or the crews are at rest
    pub idle_found : {crews : List (Crew B)} {desks : List DeskState} → Underway Runs budget IsGoing most old leg left now → DoneLeg Runs budget turns now did new → did.stopped ≡ None
        → crews ≡ new.works → desks ≡ new.desks → NoneHasWork crews desks → turns ≤ left → 0 < turns → RunsUntilIdle Runs budget most old (Ok ended_as.Idle) new
    idle_found {crews} {desks} far done on same_crews same_desks none le some =
        let rest : AtRest new = rests done on (same_work (λ W. W) crews new.works desks new.desks same_crews same_desks none) in
        ended (λ (did : Rested) (w : Worked (Crew B)). (did.stopped ≡ None) × AtRest w) far.so_far done (on, rest) le some

    -- or they go on
    pub idle_goes : {next : ℕ} {crews : List (Crew B)} {desks : List DeskState} → Underway Runs budget IsGoing most old leg left now → DoneLeg Runs budget turns now did new → did.stopped ≡ None
        → crews ≡ new.works → desks ≡ new.desks → (NoneHasWork crews desks → ⊥) → 0 < next → turns ≤ left → Underway Runs budget IsGoing most old next (left - turns) new
    idle_goes {next} {crews} {desks} far done on same_crews same_desks work some le = record {
      so_far = one_more far.so_far done on (goes (same_work (λ W. W → ⊥) crews new.works desks new.desks same_crews same_desks work)) le;
      some = some;
    }
