-- `Entries::nth`: its clauses `entry`, `same` and `room`, and the invariant of `self`.
use Rattle.std.proofs.Common.{Some, ap, sym, ◌∙◌, arith, slice_get}
use Rattle.pt_entries.specs.Held.{held_entries, held_room}
use Rattle.pt_entries.proofs.entries.Entries.nth.Goals.{in-Few, in-Many}
use Rattle.pt_entries.proofs.entries.Entries.nth.Goals as goal

pub invariant_of-self : goal.invariant_of-self
invariant_of-self g c =
    elim c.match-self.branch [
      | in-Few w ↦ rw (w.self-inside-is, w.row.ensures.same) (rw w.in-Few.is at c.self.invariant)
      | in-Many w ↦ rw w.self-inside-is tt
    ]

pub returns-clause-entry : goal.returns-clause-entry
returns-clause-entry g c =
    let seen = ap (λ l. slice_get l.entries c.args.i) (sym c.self.view_is) in
    elim c.match-self.branch [
      | in-Few w ↦ seen ∙ ap (λ p. slice_get (held_entries p) c.args.i) w.in-Few.is ∙ w.row.ensures.entry ∙ ap Some (sym w.result-is)
      | in-Many w ↦
          seen ∙ ap (λ p. slice_get (held_entries p) c.args.i) w.in-Many.is ∙ ap (λ m. slice_get m.entries c.args.i) (sym w.deref_mut.ensures.value)
          ∙ w.nth.ensures.entry ∙ ap Some (sym w.result-is)
    ]

pub returns-clause-same : goal.returns-clause-same
returns-clause-same g c =
    elim c.match-self.branch [
      | in-Few w ↦ rw (w.self-inside-is, w.row.ensures.same) (ap held_entries (sym w.in-Few.is) ∙ ap (λ l. l.entries) c.self.view_is)
      | in-Many w ↦
          rw w.self-inside-is
          (w.nth.ensures.same ∙ ap (λ m. m.entries) w.deref_mut.ensures.value ∙ ap held_entries (sym w.in-Many.is) ∙ ap (λ l. l.entries) c.self.view_is)
    ]

pub returns-clause-room : goal.returns-clause-room
returns-clause-room g c =
    elim c.match-self.branch [
      | in-Few w ↦ rw (w.self-inside-is, w.row.ensures.same) (omega (arith, ap held_room w.in-Few.is, ap (λ l. l.room) c.self.view_is))
      | in-Many w ↦ rw w.self-inside-is (omega (arith, ap held_room w.in-Many.is, ap (λ l. l.room) c.self.view_is, w.nth.ensures.room, ap (λ m. m.room) w.deref_mut.ensures.value))
    ]
