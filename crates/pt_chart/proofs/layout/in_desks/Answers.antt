-- `in_desks`: its contract, and its loop over `desk`.
use Rattle.std.proofs.Common.{◌≡◌, ◌+◌, ◌++◌, suc, ap, ◌∙◌, arith}
use Rattle.std.specs.List.{filter}
use Rattle.pt_chart.specs.Desks.{by_desk, on_desk}
use Rattle.pt_chart.proofs.layout.in_desks.Goals as goal

pub loop-desk-preserved : goal.loop-desk-preserved
loop-desk-preserved c =
    let named = c.args.named.now in
    let desk = c.loop-desk.desk in
    let next : suc desk ≡ desk + 1 = omega arith in
    c.in_ok-add_desk.ensures ∙ ap (λ ps. ps ++ filter (on_desk desk) named) c.loop-desk.invariant ∙ ap (λ desks. by_desk desks named) next

pub returns : goal.returns
returns c =
    let desks = c.desks_of-desk-end.result in
    let same : c.loop-desk.desk ≡ desks = omega arith in
    record { desks = desks; below = c.desks_of-desk-end.ensures; is = c.loop-desk.invariant ∙ ap (λ k. by_desk k c.args.named.now) same }
