-- `named_in`: its contract, and its loop over `at`.
use Rattle.std.proofs.Common.{ap, sym, ◌∙◌, get_or, arith}
use Rattle.std.proofs.lemmas.List.{take_all}
use Rattle.pt_chart.specs.Desks.{add_named, named}
use Rattle.pt_chart.proofs.Desks.{named_more}
use Rattle.pt_chart.proofs.Numbering.{nothing}
use Rattle.pt_chart.proofs.layout.named_in.Goals as goal

pub loop-at-preserved : goal.loop-at-preserved
loop-at-preserved c =
    let events = c.args.events.now in
    let at = c.loop-at.at in
    c.in_ok-enter.ensures ∙ ap (λ ps. add_named ps (get_or events at nothing).event) c.loop-at.invariant ∙ sym (named_more events at nothing (omega arith))

pub returns : goal.returns
returns c = c.loop-at.invariant ∙ ap named (take_all c.loop-at.at c.args.events.now (omega arith))
