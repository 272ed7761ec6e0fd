-- `begin_all`: its clause `fails`, and its loop over `place`.
use Rattle.std.proofs.Common.{◌<◌, length, arith}
use Rattle.pt_epochs.proofs.Again.{Begun, begun_failed, begun_next, on_err}
use Rattle.pt_epochs.proofs.ending.begin_all.Goals as goal

pub returns-in_err-begin_again-clause-fails : goal.returns-in_err-begin_again-clause-fails
returns-in_err-begin_again-clause-fails g c =
    let inv = c.loop-place.invariant in
    let old = c.args.crews.now.items in
    let now = c.loop-place.crews.items in
    let within : c.loop-place.place < length now = omega (arith, c.loop-place-test.true, inv.count, c.len-place-end.ensures, c.loop-place.auto.place-end) in
    let so_far : Begun c.loop-place.place old now = record { count = inv.count; begun = inv.begun; rest = inv.rest } in
    let does = c.begin_again.ensures in
    on_err c.from_residual.result _
    (begun_failed c.loop-place.place old now c.index_mut.result.now c.begin_again.new.self within c.index_mut.ensures.value so_far (record { roles = does.roles; longer = does.longer; rest = does.rest }))

pub loop-place-preserved : goal.loop-place-preserved
loop-place-preserved g c =
    let inv = c.loop-place.invariant in
    let old = c.args.crews.now.items in
    let now = c.loop-place.crews.items in
    let within : c.loop-place.place < length now = omega (arith, c.loop-place-test.true, inv.count, c.len-place-end.ensures, c.loop-place.auto.place-end) in
    let so_far : Begun c.loop-place.place old now = record { count = inv.count; begun = inv.begun; rest = inv.rest } in
    let does = c.in_ok-begin_again.ensures in
    let next = begun_next c.loop-place.place old now c.index_mut.result.now c.begin_again.new.self within c.index_mut.ensures.value so_far
    (record { attends = does.attends; all = does.all; roles = does.roles; longer = does.longer; rest = does.rest }) in
    record { count = next.count; begun = next.begun; rest = next.rest }
