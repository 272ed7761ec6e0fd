-- `Entries::set`: the invariant of `self`.
use Rattle.pt_entries.proofs.FewLemmas.{set_held}
use Rattle.pt_entries.proofs.entries.Entries.set.Goals.{in-Few, in-Many}
use Rattle.pt_entries.proofs.entries.Entries.set.Goals as goal

pub invariant_of-self : goal.invariant_of-self
invariant_of-self g c =
    elim c.match-self.branch [
      | in-Few w ↦ rw w.self-inside-is (set_held g.met.K.Eq.laws (g.K.PartialEq.eq c.args.key) w.in-Few.few.items _ c.args.value w.write.ensures.entries (rw w.in-Few.is at c.self.invariant))
      | in-Many w ↦ rw w.self-inside-is tt
    ]
