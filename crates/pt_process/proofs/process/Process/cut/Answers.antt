-- `Process::cut`: its contract.
use Rattle.std.proofs.Common.{◌∙◌, refl, sym}
use Rattle.pt_process.proofs.LinkLemmas.{cut_same, cut_other}
use Rattle.pt_process.proofs.StateLemmas.{links_same, links_other}
use Rattle.pt_process.proofs.process.Process.cut.Goals as goal

pub returns-then-holds_any : goal.returns-then-holds_any
returns-then-holds_any c =
    let s = c.args.self.now.state in
    (c.cut_ids.ensures.me, c.cut_ids.ensures.state, (refl, refl, refl, links_other s _ (cut_other c.args.from c.args.named s.links (sym c.holds_any.ensures ∙ c.if-holds_any.true))))

pub returns-else-holds_any : goal.returns-else-holds_any
returns-else-holds_any c =
    let s = c.args.self.now.state in
    let same = links_same s _ (cut_same c.args.from c.args.named s.links (sym c.holds_any.ensures ∙ c.if-holds_any.false)) in
    (refl, sym same, (refl, refl, refl, same))
