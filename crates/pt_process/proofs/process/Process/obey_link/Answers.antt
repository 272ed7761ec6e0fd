-- `Process::obey_link`: its contract.
use Rattle.std.proofs.Common.{◌≡◌, true, refl, sym, ap, subst, is_some}
use Rattle.pt_signal.specs.Values.{same_pid}
use Rattle.pt_signal.specs.Process.{held}
use Rattle.pt_process.specs.ProcessView.{ProcessView}
use Rattle.pt_process.proofs.LinkLemmas.{remove_entry-other}
use Rattle.pt_process.proofs.process.Process.obey_link.Goals as goal

pub returns-in-Drops : goal.returns-in-Drops
returns-in-Drops c =
    let linked = subst (λ (p : ProcessView). is_some (held p.state.links c.args.from) ≡ true) (sym c.self.view_is) c.requires in
    rw (c.in-Drops.is, ← c.self.view_is, c.remove.ensures.rest) (refl, refl, (refl, refl, refl, λ e. remove_entry-other (same_pid c.args.from) c.self.inside.links.entries linked (ap (λ s. s.links) e)))
