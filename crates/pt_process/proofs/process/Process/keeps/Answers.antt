-- `Process::keeps`: its contract.
use Rattle.std.proofs.Common.{◌∙◌, ap, is_some}
use Rattle.std.specs.List.{list_any}
use Rattle.pt_signal.specs.Process.{same_watch}
use Rattle.pt_entries.proofs.MapLemmas.{any-keys_of}
use Rattle.pt_process.proofs.process.Process.keeps.Goals as goal

pub returns : goal.returns
returns c =
    let same = same_watch c.args.monitor c.args.watcher in
    c.is_some.ensures ∙ ap is_some c.get.ensures ∙ any-keys_of same c.self.inside.kept.entries ∙ ap (λ p. list_any same p.state.kept) c.self.view_is
