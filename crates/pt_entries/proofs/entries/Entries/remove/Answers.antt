-- `Entries::remove`: its clause `room`, and the invariant of `self`.
use Rattle.std.proofs.Common.{ap, arith, length}
use Rattle.pt_entries.specs.Held.{held_room}
use Rattle.pt_entries.proofs.MapLemmas.{length-remove_entry}
use Rattle.pt_entries.proofs.FewLemmas.{gone_held}
use Rattle.pt_entries.proofs.entries.Entries.remove.Goals.{in-Few, in-Many}
use Rattle.pt_entries.proofs.entries.Entries.remove.Goals as goal

pub invariant_of-self : goal.invariant_of-self
invariant_of-self g c =
    elim c.match-self.branch [
      | in-Few w ↦ rw w.self-inside-is (gone_held g.met.K.Eq.laws (g.K.PartialEq.eq c.args.key.now) w.in-Few.few.items _ w.take.ensures.rest (rw w.in-Few.is at c.self.invariant))
      | in-Many w ↦ rw w.self-inside-is tt
    ]

pub returns-clause-room : goal.returns-clause-room
returns-clause-room g c =
    elim c.match-self.branch [
      | in-Few w ↦
          rw w.self-inside-is (omega (arith, ap held_room w.in-Few.is, ap (λ l. l.room) c.self.view_is, w.take.ensures.capacity, ap length w.take.ensures.rest, length-remove_entry (g.K.PartialEq.eq c.args.key.now) w.in-Few.few.items))
      | in-Many w ↦ rw w.self-inside-is (omega (arith, ap held_room w.in-Many.is, ap (λ l. l.room) c.self.view_is, w.remove.ensures.room, ap (λ m. m.room) w.deref_mut.ensures.value))
    ]
