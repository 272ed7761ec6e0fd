-- What the desks of a node go on from stays as one of them goes on, and crews that are as they should be get one more.
use Rattle.std.proofs.Common.{◌≡◌, ◌≢◌, ℕ, zero, suc, ◌<◌, ⊎_elim, List, [], ◌∷◌, ◌++◌, length, get_or, set, sym, ◌∙◌, subst, arith}
use Rattle.std.proofs.lemmas.Bool.{cases_eq}
use Rattle.std.proofs.lemmas.List.{get_or_default, get_or-set_same, get_or-set_other, length-set}
use Rattle.pt_crew.specs.declared.crew.Crew.{Crew}
use Rattle.pt_pauses.specs.Here.{CrewHere, CrewsHere}
use Rattle.pt_supervisor.specs.Keeping.{PartOf}
use Rattle.pt_desk.specs.DeskState.{DeskState, GoesOn}
use Rattle.pt_workers.specs.Stillness.{AllDesksGoOn}
use Rattle.pt_workers.proofs.GoingOn.{stays}
use Rattle.pt_node.specs.Pasts.{GoOnFrom}
use Rattle.pt_epochs.proofs.Whole.{desks_past}

module _ (desks : List DeskState) (place : ℕ) (old desk : DeskState) (within : place < length desks) (is : old ≡ get_or desks place old) (on : GoesOn old desk) where
  here : (x : DeskState) → GoesOn (get_or desks place x) (get_or (set desks place desk) place x)
  here x =
      subst (λ y. GoesOn (get_or desks place x) y) (sym (get_or-set_same desks place desk x within))
      (subst (λ y. GoesOn y desk) (is ∙ get_or_default desks place old x within) on)

  one_goes_on : AllDesksGoOn desks (set desks place desk)
  one_goes_on = record {
    count = length-set desks place desk;
    each = λ k x l. ⊎_elim
        (λ (same : k ≡ place). subst (λ j. GoesOn (get_or desks j x) (get_or (set desks place desk) j x)) (sym same) (here x))
        (λ (apart : k ≢ place). subst (GoesOn (get_or desks k x)) (sym (get_or-set_other desks place k desk x apart)) (stays (get_or desks k x)))
        (cases_eq k place);
  }

  pub one_keeps : GoOnFrom [] desks → GoOnFrom [] (set desks place desk)
  one_keeps from = desks_past desks (set desks place desk) one_goes_on [] from

pub more_here : {B : Type 0} (part : PartOf B) (crews : List (Crew B)) (crew : Crew B) → CrewsHere part crews → CrewHere part crew → CrewsHere part (crews ++ crew ∷ [])
more_here part [] crew all one zero c l = one
more_here part [] crew all one (suc d) c l = absurd (omega (arith, l))
more_here part (x ∷ crews) crew all one zero c l = all zero c (omega arith)
more_here part (x ∷ crews) crew all one (suc d) c l = more_here part crews crew (λ i z at. all (suc i) z (omega (arith, at))) one d c (omega (arith, l))
