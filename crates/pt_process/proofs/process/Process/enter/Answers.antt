-- `Process::enter`: its contract.
use Rattle.std.proofs.Common.{◌∙◌, refl, sym}
use Rattle.pt_process.proofs.LinkLemmas.{enter_same, enter_other}
use Rattle.pt_process.proofs.StateLemmas.{links_same, links_other}
use Rattle.pt_process.proofs.process.Process.enter.Goals as goal

pub returns-then-has_two : goal.returns-then-has_two
returns-then-has_two c =
    let s = c.args.self.now.state in
    let same = links_same s _ (enter_same c.args.from c.args.id s.links (sym c.has_two.ensures ∙ c.if-has_two.true)) in
    (refl, sym same, (refl, refl, refl, same))

pub returns : goal.returns
returns c =
    let s = c.args.self.now.state in
    (c.add_link.ensures.me, c.in_ok-add_link.ensures.state, (refl, refl, refl, links_other s _ (enter_other c.args.from c.args.id s.links (sym c.has_two.ensures ∙ c.if-has_two.false))))
