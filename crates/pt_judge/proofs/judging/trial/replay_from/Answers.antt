-- `replay_from`: its contract, and its loop over `place`.
use Rattle.std.proofs.Common.{◌≡◌, ◌++◌, reverse, subst, take}
use Rattle.std.proofs.lemmas.List.{take_all}
use Rattle.pt_events.specs.History.{IsLegal}
use Rattle.pt_judge.specs.Judge.{IsAfter}
use Rattle.pt_judge.proofs.Trial.{next_place, failed}
use Rattle.pt_judge.proofs.judging.trial.replay_from.Goals as goal

pub loop-place-init : goal.loop-place-init
loop-place-init c start past k legal = record { is_after = k; legal = legal }

pub loop-place-preserved : goal.loop-place-preserved
loop-place-preserved c start past k legal =
    let here = c.loop-place.invariant start past k legal in
    next_place start past c.args.events.now c.loop-place.place _ c.loop-place.state c.in-Ok.next c.loop-place-test.true here
    (c.in-Ok.ensures start _ here.is_after)

pub returns-in-Err : goal.returns-in-Err
returns-in-Err c start past k legal =
    let here = c.loop-place.invariant start past k legal in (
      c.loop-place-test.true,
      here.legal,
      failed start past c.args.events.now c.loop-place.place _ c.in-Err.cause c.loop-place-test.true (c.in-Err.ensures start _ here.is_after),
    )

pub returns : goal.returns
returns c start past k legal =
    let here = c.loop-place.invariant start past k legal in
    let whole : take c.loop-place.place c.args.events.now ≡ c.args.events.now = take_all c.loop-place.place c.args.events.now c.loop-place-test.false in (
      subst (λ h. IsAfter start (reverse h ++ past) c.loop-place.state) whole here.is_after,
      subst (λ h. IsLegal start (reverse h ++ past)) whole here.legal,
    )
