-- A book has what happened in all epochs of a run, one history behind the other.
use Rattle.std.proofs.Common.{◌≡◌, ℕ, zero, suc, List, [], ◌++◌, reverse, append_assoc, append-nil, sym, ap, ◌∙◌, subst}
use Rattle.pt_events.specs.declared.event.Stamped.{Stamped}
use Rattle.pt_events.specs.History.{IsLegal, Past}
use Rattle.pt_events.specs.Journal.{events}
use Rattle.pt_desk.specs.DeskState.{DeskState}
use Rattle.pt_crew.specs.declared.crew.Crew.{Crew}
use Rattle.pt_supervisor.specs.Keeping.{PartOf}
use Rattle.pt_epochs.specs.declared.epochs.Outcome.{Outcome}
use Rattle.pt_epochs.specs.declared.epochs.Outcome.TheVariants as outcome
use Rattle.pt_epochs.specs.declared.epochs.Pause.{Pause}
use Rattle.pt_epochs.specs.declared.epochs.Plan.{Plan}
use Rattle.pt_epochs.specs.Running.{EndsRun, EndsWithOne, Manned, PassEach, PassesAsOne, PassesOne}
use Rattle.pt_pauses.specs.Pauses.{AllHold}
use Rattle.example_scenes.specs.declared.shifts.Book.{Book}

abbrev pub Takes : Book → List Stamped → Book → Type 0
Takes old history new = new.events.items ≡ old.events.items ++ history

module _ {B : Type 0} (Runs : ℕ → List (DeskState × Crew B) → List (DeskState × Crew B) → Type 0) (plan : Plan) (Refuses : Book → List Stamped → Book → Type 0) where
  one_more : (before history : List Stamped) (pause : Pause) (old mid new : Manned B Book) → PassesOne Runs plan Takes Refuses pause history mid new → mid.sink.events.items ≡ old.sink.events.items ++ before
      → new.sink.events.items ≡ old.sink.events.items ++ (before ++ history)
  one_more before history pause old mid new one so_far = one.ends.over.over.takes ∙ ap (λ z. z ++ history) so_far ∙ append_assoc old.sink.events.items before history

  each_booked : (n : ℕ) (all : List Stamped) (old new : Manned B Book) → PassEach Runs plan Takes Refuses n all old new → new.sink.events.items ≡ old.sink.events.items ++ all
  each_booked zero all old new (none, same) =
      ap (λ (m : Manned B Book). m.sink.events.items) same ∙ sym (append-nil old.sink.events.items) ∙ ap (λ z. old.sink.events.items ++ z) (sym none)
  each_booked (suc n) all old new (before, history, mid, pause, is, passed, one, goes) =
      one_more before history pause old mid new one (each_booked n before old mid passed) ∙ ap (λ z. old.sink.events.items ++ z) (sym is)

  one_last : (all : List Stamped) (old new : Manned B Book) (n : ℕ) (why : Outcome) → EndsWithOne Runs plan Takes Refuses n why all old new → new.sink.events.items ≡ old.sink.events.items ++ all
  one_last all old new n why e =
      one_more e.before e.history e.pause old e.mid new e.last (each_booked n e.before old e.mid e.passed) ∙ ap (λ z. old.sink.events.items ++ z) (sym e.all_is)

  pub run_booked : (most : ℕ) (why : Outcome) (all : List Stamped) (old new : Manned B Book) → EndsRun Runs plan Takes Refuses most why all old new → new.sink.events.items ≡ old.sink.events.items ++ all
  run_booked most outcome.Counted all old new h = each_booked most all old new h
  run_booked most outcome.Idle all old new (n, within, e) = one_last all old new n outcome.Idle e
  run_booked most outcome.Told all old new (n, within, e) = one_last all old new n outcome.Told e

module _ {B : Type 0} {Runs : ℕ → List (DeskState × Crew B) → List (DeskState × Crew B) → Type 0} {plan : Plan} {Refuses : Book → List Stamped → Book → Type 0} {most : ℕ} {why : Outcome} {old new : Manned B Book}
    (p : PassesAsOne Runs plan Takes Refuses most why old new) (none : old.sink.events.items ≡ []) where
  -- a book that was empty has them, and nothing else
  booked : (P : Past → Type 0) → P (events (reverse p.all) ++ []) → P (events (reverse new.sink.events.items))
  booked P h =
      subst (λ (all : List Stamped). P (events (reverse all))) (sym (run_booked Runs plan Refuses most why p.all old new p.passes ∙ ap (λ z. z ++ p.all) none))
      (subst P (append-nil (events (reverse p.all))) h)

  pub teams_hold : (part : PartOf B) → AllHold part (events (reverse p.all) ++ []) new.crews new.desks → AllHold part (events (reverse new.sink.events.items)) new.crews new.desks
  teams_hold part h = booked (λ (past : Past). AllHold part past new.crews new.desks) h

  pub all_legal : (part : PartOf B) → AllHold part [] old.crews old.desks → IsLegal [] (events (reverse new.sink.events.items))
  all_legal part h = booked (IsLegal []) (p.whole [] h.from).legal
