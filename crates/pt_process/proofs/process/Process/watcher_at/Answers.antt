-- `Process::watcher_at`: its contract.
use Rattle.std.proofs.Common.{sym, ap, ◌∙◌}
use Rattle.std.specs.Option.{option_map}
use Rattle.std.proofs.lemmas.Option.{slice_get-map}
use Rattle.pt_process.proofs.process.Process.watcher_at.Goals as goal

pub returns-in-Some : goal.returns-in-Some
returns-in-Some c =
    let entries = c.self.inside.kept.entries in
    rw (← c.self.view_is) (ap (option_map (λ e. e.0)) (sym c.in-Some.is ∙ c.read.ensures) ∙ sym (slice_get-map (λ e. e.0) entries c.args.i))

pub returns-in-None : goal.returns-in-None
returns-in-None c =
    let entries = c.self.inside.kept.entries in
    rw (← c.self.view_is) (ap (option_map (λ e. e.0)) (sym c.in-None.is ∙ c.read.ensures) ∙ sym (slice_get-map (λ e. e.0) entries c.args.i))
