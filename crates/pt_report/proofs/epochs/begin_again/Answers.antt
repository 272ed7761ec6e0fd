-- `begin_again`: its contract, and its loop.
use Rattle.std.proofs.Common.{◌<◌, length, arith}
use Rattle.pt_report.proofs.Attending.{none_began, one_began}
use Rattle.pt_report.proofs.epochs.begin_again.Goals as goal

pub loop-index-init : goal.loop-index-init
loop-index-init c = (none_began c.args.runners.now.items, c.len-index-end.ensures)

pub loop-index-preserved : goal.loop-index-preserved
loop-index-preserved c =
    let now = c.loop-index.runners.items in
    let i = c.loop-index.index in
    let inv = c.loop-index.invariant in
    let within : i < length now = omega (arith, c.loop-index-test.true, inv.1, c.loop-index.runners.ok.0) in
    (one_began c.args.runners.now.items now i c.index_mut.result.now c.begin_again.new.self within c.index_mut.ensures.value c.begin_again.ensures.fresh c.begin_again.ensures.table inv.0, inv.1)

pub returns : goal.returns
returns c =
    let inv = c.loop-index.invariant in
    record { count = inv.0.count; each = λ d r lt. inv.0.each d r (omega (arith, lt, c.loop-index-test.false, inv.1, inv.0.count, c.loop-index.runners.ok.0)) }
