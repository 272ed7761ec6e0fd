-- `is_empty`: its contract.
use Rattle.std.proofs.Common.{length, sym, ◌∙◌}
use Rattle.pt_auditor.proofs.Reread.{empty_is, entries_nil}
use Rattle.pt_auditor.proofs.rest.Rest.is_empty.Goals as goal

pub returns : goal.returns
returns c =
    let items = c.args.self.now.residents.items in
    empty_is _ c.is_none.result (length items) c.front.ensures.item.0 c.is_none.ensures ∙ sym (entries_nil items)
