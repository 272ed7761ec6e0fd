-- `Process::cut_kept`: its clause `state`.
use Rattle.std.proofs.Common.{◌∙◌, [], ap}
use Rattle.std.specs.Map.{keys_of}
use Rattle.pt_signal.specs.Process.{ProcessState, same_watch}
use Rattle.pt_process.proofs.WatchLemmas.{keys_of-remove_entry}
use Rattle.pt_process.proofs.StateLemmas.{kept_set}
use Rattle.pt_process.proofs.process.Process.cut_kept.Goals as goal

pub returns-clause-state : goal.returns-clause-state
returns-clause-state c =
    let p = c.self.inside in
    let s : ProcessState = record { waiting = p.waiting; links = p.links.entries; watching = p.watching.entries; kept = []; traps = p.traps } in
    rw (← c.self.view_is) (kept_set s _ _ (ap keys_of c.remove.ensures.rest ∙ keys_of-remove_entry (same_watch c.args.monitor c.args.watcher) p.kept.entries))
