-- `Process::cut_link`: its clause `none`.
use Rattle.std.proofs.Common.{◌∙◌, sym}
use Rattle.pt_entries.proofs.MapLemmas.{remove_entry-absent}
use Rattle.pt_process.proofs.StateLemmas.{links_same, IfNone-from}
use Rattle.pt_process.proofs.process.Process.cut_link.Goals as goal

pub returns-clause-none : goal.returns-clause-none
returns-clause-none c =
    IfNone-from c.remove.result _ (λ none. rw (← c.self.view_is) (links_same _ _ (c.remove.ensures.rest ∙ remove_entry-absent _ _ (sym c.remove.ensures.value ∙ none))))
