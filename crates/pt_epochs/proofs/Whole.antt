-- Turns and runs change nothing of what desks go on from.
use Rattle.std.proofs.Common.{◌≡◌, ℕ, ◌<◌, List, [], ◌∷◌, length, map, max, get_or, refl, sym, ap, ◌∙◌, subst, arith}
use Rattle.std.proofs.lemmas.List.{get_or-map, length-map}
use Rattle.pt_events.specs.History.{Past}
use Rattle.pt_desk.specs.DeskState.{DeskState, GoesOn}
use Rattle.pt_workers.specs.Running.{AllGoOn}
use Rattle.pt_workers.specs.Stillness.{AllDesksGoOn}
use Rattle.pt_workers.specs.declared.stillness.Rested.{Rested}
use Rattle.pt_node.specs.Pasts.{GoOnFrom}
use Rattle.pt_node.proofs.Pasts.{go_on_past}
use Rattle.pt_node.proofs.RoundByRound.{all_rounds_go_on}
use Rattle.pt_epochs.specs.Idle.{EndsBy, Leg, Legs, Worked}

-- desks that go on, alone ------------------------------------------------------------

abbrev pair : DeskState → DeskState × Unit {0}
pair d = (d, tt)

abbrev alone : List DeskState → List (DeskState × Unit {0})
alone desks = map pair desks

abbrev first : DeskState × Unit {0} → DeskState
first p = p.0

firsts : (desks : List DeskState) → map first (alone desks) ≡ desks
firsts [] = refl
firsts (d ∷ desks) = ap (λ ds. d ∷ ds) (firsts desks)

go_on_alone : (old new : List DeskState) → AllDesksGoOn old new → AllGoOn (alone old) (alone new)
go_on_alone old new on = record {
  count = length-map new pair ∙ on.count ∙ sym (length-map old pair);
  each = λ d p l.
      let x = p.0 in
      let in_old : d < length old = omega (arith, l, length-map old pair) in
      let in_new : d < length new = omega (arith, in_old, on.count) in
      subst (λ (y : DeskState × Unit {0}). GoesOn y.0 (get_or (alone new) d p).0) (sym (get_or-map pair old d x p in_old))
      (subst (λ (y : DeskState × Unit {0}). GoesOn (get_or old d x) y.0) (sym (get_or-map pair new d x p in_new)) (on.each d x in_old));
}

-- turns change nothing of what the desks go on from
pub desks_past : (old new : List DeskState) → AllDesksGoOn old new → (past : Past) → GoOnFrom past old → GoOnFrom past new
desks_past old new on past from =
    subst (GoOnFrom past) (firsts new) (go_on_past (alone old) (alone new) (go_on_alone old new on) past (subst (GoOnFrom past) (sym (firsts old)) from))

module _ {W : Type 0} (Runs : ℕ → List (DeskState × W) → List (DeskState × W) → Type 0) (budget : ℕ) where
  -- nor does a run
  leg_past : (turns : ℕ) (old : Worked W) (did : Rested) (new : Worked W) → Leg Runs budget turns old did new → (past : Past) → GoOnFrom past old.desks → GoOnFrom past new.desks
  leg_past turns old did new leg past from =
      let r = leg.runs in
      desks_past leg.ran new.desks (all_rounds_go_on (max budget 1) leg.ran did new.desks leg.rests) past
      (subst (GoOnFrom past) r.ended.firsts (go_on_past r.before r.after r.each past (subst (GoOnFrom past) (sym r.begun.firsts) from)))

  pub legs_past : (Goes : Worked W → Type 0) (legs : List ℕ) (old new : Worked W) → Legs Runs budget Goes legs old new → (past : Past) → GoOnFrom past old.desks → GoOnFrom past new.desks
  legs_past Goes [] old new h past from = subst (λ (w : Worked W). GoOnFrom past w.desks) (sym h) from
  legs_past Goes (turns ∷ legs) old new (mid, did, before, leg, on, goes) past from = leg_past turns mid did new leg past (legs_past Goes legs old mid before past from)

  pub ends_past : (Goes : Worked W → Type 0) (most : ℕ) (old : Worked W) (Ends : Rested → Worked W → Type 0) (new : Worked W) → EndsBy Runs budget Goes most old Ends new → (past : Past) → GoOnFrom past old.desks → GoOnFrom past new.desks
  ends_past Goes most old Ends new e past from = leg_past e.turns e.last e.did new e.leg past (legs_past Goes e.before old e.last e.legs past from)
