-- `with_run`: its loop.
use Rattle.std.proofs.Common.{◌+◌, ◌-◌, ◌∷◌, ◌++◌, [], refl, ap, ◌∙◌, arith, append_assoc}
use Rattle.pt_signal.specs.declared.pid.Pid.{Pid}
use Rattle.pt_signal.specs.Process.{fresh}
use Rattle.pt_events.specs.History.{ended}
use Rattle.pt_judge.specs.Judging.{JudgeState}
use Rattle.pt_auditor.specs.Rests.{ended_run}
use Rattle.pt_auditor.proofs.Resting.{run_one_more}
use Rattle.pt_auditor.proofs.rest.with_run.Goals as goal

pub loop-version-preserved : goal.loop-version-preserved
loop-version-preserved c =
    let init = c.args.state in
    let p = c.args.pid in
    let r = c.args.reason in
    let at = c.loop-version.version in
    let next : Pid = record { shard = p.shard; slot = p.slot; version = at } in
    let n = at - p.version in
    let low = c.loop-version.auto.version in
    record {
      state =
          c.in_ok-state.ensures ∙ ap (λ (z : JudgeState). record z { lives = z.lives ++ (next, ended r fresh) ∷ [] }) c.loop-version.invariant.state
          ∙ ap (λ z. record init { lives = z })
          (append_assoc init.lives (ended_run p r n) ((next, ended r fresh) ∷ [])
          ∙ ap (λ z. init.lives ++ z) (run_one_more p next r n (at + 1 - p.version) refl refl (omega (arith, low)) (omega (arith, low))));
      within = omega (arith, low, c.loop-version-test.true);
    }
