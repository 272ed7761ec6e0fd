-- `Crew::wake_at`: its clause `wakes`.
use Rattle.std.proofs.Common.{slice_get, ap, sym, ◌∙◌}
use Rattle.pt_crew.proofs.Beginning.{on_ok_then, woken_at}
use Rattle.pt_crew.proofs.crew.Crew.wake_at.Goals as goal

pub returns-clause-wakes : goal.returns-clause-wakes
returns-clause-wakes g c =
    on_ok_then c.wake.result c.wake.ensures.wakes
    (λ w. woken_at c.args.place c.args.self.now c.wake.new.self (c.in-Some.p.now, c.in-Some._member.now) (sym (ap (λ es. slice_get es c.args.place) c.as_slice.ensures.entries) ∙ sym c.in-Some.ensures.entry) c.wake.ensures.keys w)
