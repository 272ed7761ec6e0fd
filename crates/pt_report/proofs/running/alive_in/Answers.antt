-- `alive_in`: its loop over `place`.
use Rattle.std.proofs.Common.{◌≡◌, ◌<◌, length, get_or, subst, arith}
use Rattle.std.specs.Prelude.{count_by}
use Rattle.pt_shard.specs.ShardState.{lives}
use Rattle.pt_desk.specs.DeskState.{DeskState}
use Rattle.pt_runner.specs.declared.runner.Runner.{Runner}
use Rattle.pt_runner.specs.Stepping.{processes_here}
use Rattle.pt_report.proofs.Rest.{one_more}
use Rattle.pt_report.proofs.running.alive_in.Goals as goal

pub loop-place-preserved : goal.loop-place-preserved
loop-place-preserved c =
    let desks = c.args.desks.now in
    let runners = c.args.runners.now in
    let i = c.loop-place.place in
    let x : DeskState = c.index-desks-place.result in
    let r : Runner = c.index-runners-place.result in
    let here : i < length desks = omega (arith, c.loop-place-test.true, c.min-place-end.ensures) in
    let there : i < length runners = omega (arith, c.loop-place-test.true, c.min-place-end.ensures) in
    let told : c.alive.result ≡ count_by (lives x.shard) (processes_here r) = c.alive.ensures in
    let more : c.alive.result ≡ count_by (lives (get_or desks i x).shard) (processes_here (get_or runners i r)) = subst (λ (q : Runner). c.alive.result ≡ count_by (lives (get_or desks i x).shard) (processes_here q)) c.index-runners-place.is
    (subst (λ (d : DeskState). c.alive.result ≡ count_by (lives d.shard) (processes_here r)) c.index-desks-place.is told) in
    omega (arith, c.saturating_add-alive.ensures, one_more desks runners i c.loop-place.alive c.alive.result x r here there c.loop-place.invariant more)
