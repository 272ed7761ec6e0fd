-- `columns_in`: its contract, and its loop over `at`.
use Rattle.std.proofs.Common.{◌++◌, ap, sym, subst, ◌∙◌, get_or, arith}
use Rattle.std.specs.List.{flat_map}
use Rattle.std.proofs.lemmas.List.{take_all}
use Rattle.pt_chart.specs.Mentioning.{AreNamed}
use Rattle.pt_chart.proofs.Naming.{block_named, event_columns, flat_more}
use Rattle.pt_chart.proofs.Numbering.{nothing}
use Rattle.pt_chart.proofs.drawing.columns_in.Goals as goal

pub loop-at-preserved : goal.loop-at-preserved
loop-at-preserved c =
    let block = c.args.block.now in
    let columns = event_columns c.args.pids.now in
    let at = c.loop-at.at in
    c.in_ok-add_columns.ensures ∙ ap (λ ks. ks ++ columns (get_or block at nothing)) c.loop-at.invariant ∙ sym (flat_more columns block at nothing (omega arith))

pub returns : goal.returns
returns c =
    let block = c.args.block.now in
    let pids = c.args.pids.now in
    let whole = c.loop-at.invariant ∙ ap (flat_map (event_columns pids)) (take_all c.loop-at.at block (omega arith)) in
    subst (AreNamed block pids) (sym whole) (block_named block pids)
