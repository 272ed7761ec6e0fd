-- A desk of a node is called: the desks stay those of the node.
use Rattle.std.proofs.Common.{◌≡◌, ℕ, suc, ◌+◌, ◌<◌, List, Result, Ok, Err, length, map, get_or, set, refl, sym, subst, ◌∙◌, ap, arith}
use Rattle.std.proofs.lemmas.List.{get_or-map, get_or_default, length-map}
use Rattle.std.specs.Prelude.{IfOk}
use Rattle.pt_carrier.specs.Ends.{Place}
use Rattle.pt_shard.specs.declared.fault.Fault.{Fault}
use Rattle.pt_desk.specs.DeskState.{DeskState, GoesOn, IsDesk, place}
use Rattle.pt_desk.specs.declared.turned.Turned.{Turned}
use Rattle.pt_desk.specs.Turns.{Turns}
use Rattle.pt_workers.specs.Desks.{AreDesks, OnDesk}
use Rattle.pt_node.specs.Lending.{IsDeskAt}
use Rattle.pt_node.specs.Node.{TurnsAll, node_answered, both_turned}
use Rattle.pt_workers.proofs.StillDesks.{still_desks}

-- the desk `old` was read at place d
module _ (desks : List DeskState) (d : ℕ) (old : DeskState) (within : d < length desks) (is : old ≡ get_or desks d old) where
  was : (x : DeskState) → get_or desks d x ≡ old
  was x = sym (is ∙ get_or_default desks d old x within)

  turned_one : (budget : ℕ) (turned : Turned) (new : DeskState) → Turns budget old turned new → GoesOn old new → OnDesk d (λ x y. Turns budget x turned y) desks (set desks d new)
  turned_one budget turned new turns goes = record { within = within; desk = new; does = rw (was new) turns; goes_on = rw (was new) goes; others = refl }

  pub turns_more :
      (budget : ℕ) (start : List DeskState) (before next : Turned) (new : DeskState) → TurnsAll budget d start before desks → Turns budget old next new → GoesOn old new
      → (after : Turned) → after ≡ both_turned before next → TurnsAll budget (d + 1) start after (set desks d new)
  turns_more budget start before next new so_far turns goes after is_both =
      let e : suc d ≡ d + 1 = omega arith in
      subst (λ k. TurnsAll budget k start after (set desks d new)) e (desks, before, next, so_far, turned_one budget next new turns goes, is_both)

  pub called_desks : AreDesks desks → (new : DeskState) → GoesOn old new → AreDesks (set desks d new)
  called_desks node new g = still_desks desks d old new node within is (g.place, g.shard.config, g.sight.directory, g.shard.start)

  pub number_is : AreDesks desks → IsDesk old → old.shard.number ≡ d
  number_is node whole =
      let at : get_or (map place desks) d (place old) ≡ place old = get_or-map place desks d old (place old) within ∙ sym (ap place is) in
      sym whole.accounts.out_number ∙ sym (ap (λ (p : Place × Place). p.0.number) at) ∙ (node.1.node.numbers d (place old) (omega (arith, within, length-map desks place))).0

-- the same of the desk that a call of the node has found
pub called_at : {desks : List DeskState} {d : ℕ} {old new : DeskState} → AreDesks desks → IsDeskAt d desks old → GoesOn old new → AreDesks (set desks d new)
called_at {desks = desks} {d = d} {old = old} {new = new} node here goes = called_desks desks d old here.0 here.1 node new goes

pub answered_if : {A : Type 0} (P Q : A → Type 0) (r : Result A Fault) → ((a : A) → P a → Q a) → IfOk r P → IfOk (node_answered r) Q
answered_if P Q (Ok a) f h = f a h
answered_if P Q (Err e) f h = h
