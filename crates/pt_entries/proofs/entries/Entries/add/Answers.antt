-- `Entries::add`: the invariant of `self`.
use Rattle.std.proofs.Common.{◌<◌, ap, sym, ◌∙◌, arith, length}
use Rattle.std.specs.Map.{lookup}
use Rattle.pt_entries.specs.Held.{held_entries, held_room}
use Rattle.pt_entries.proofs.FewLemmas.{added_held}
use Rattle.pt_entries.proofs.entries.Entries.add.Goals.{in-Few, in-Many}
use Rattle.pt_entries.proofs.entries.Entries.add.Goals as goal

pub invariant_of-self : goal.invariant_of-self
invariant_of-self g c =
    elim c.match-self.branch [
      | in-Few w ↦
          let few = w.in-Few.few.items in
          let test = g.K.PartialEq.eq c.args.key in
          let short : length few < 8 = omega (arith, ap held_room w.in-Few.is, ap (λ l. l.room) c.self.view_is, c.requires.room) in
          let none = sym (ap (λ p. lookup test (held_entries p)) w.in-Few.is) ∙ ap (λ l. lookup test l.entries) c.self.view_is ∙ c.requires.absent in
          let held = rw w.in-Few.is at c.self.invariant in
          rw w.self-inside-is (added_held g.met.K.Eq.laws few _ c.args.key c.args.value w.push_reserved.ensures.items short none held.1)
      | in-Many w ↦ rw w.self-inside-is tt
    ]
