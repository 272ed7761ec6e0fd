-- `drained`: its contract, and its loop.
use Rattle.std.proofs.Common.{◌≡◌, true, ◌∷◌, length, refl, ap, sym, ◌∙◌, arith}
use Rattle.pt_signal.specs.declared.pid.Pid.{Pid}
use Rattle.pt_signal.specs.declared.signal.Signal.{Signal}
use Rattle.pt_signal.specs.Process.{sent}
use Rattle.pt_signal.proofs.Same.{same_pid_refl}
use Rattle.pt_events.specs.History.{is_between}
use Rattle.pt_judge.specs.Judging.{JudgeState}
use Rattle.pt_auditor.proofs.Carried.{front_gone}
use Rattle.pt_auditor.proofs.Resting.{draining_one, drained_all, none_left}
use Rattle.pt_auditor.proofs.rest.drained.Goals as goal

own : (a b : Pid) (x : Signal) → is_between a b (sent a b x) ≡ true
own a b x = rw (same_pid_refl a, same_pid_refl b) refl

pub loop-from-preserved : goal.loop-from-preserved
loop-from-preserved c =
    let a = c.in-Some.from in
    let b = c.in-Some.to in
    let x = sent a b c.in-Some.signal in
    let now = c.loop-from.state in
    let less = ap (λ (z : JudgeState). z.flights) c.without_oldest-state.ensures in
    let gone = front_gone a b now.flights x c.in-Some.ensures (own a b c.in-Some.signal) ∙ ap (λ z. x ∷ z) (sym less) in
    draining_one c.args.state now c.without_oldest-state.result c.loop-from.estate c.add.new.self x c.loop-from.invariant gone
    (c.without_oldest-state.ensures ∙ ap (λ z. record now { flights = z }) (sym less))
    c.in-Ok.ensures.links c.in-Ok.ensures.kept c.in-Ok.ensures.watching

pub loop-from-smaller : goal.loop-from-smaller
loop-from-smaller c =
    let a = c.in-Some.from in
    let b = c.in-Some.to in
    let x = sent a b c.in-Some.signal in
    let less = ap (λ (z : JudgeState). z.flights) c.without_oldest-state.ensures in
    let gone = front_gone a b c.loop-from.state.flights x c.in-Some.ensures (own a b c.in-Some.signal) ∙ ap (λ z. x ∷ z) (sym less) in
    omega (arith, ap length gone)

pub returns : goal.returns
returns c = drained_all c.args.state c.loop-from.state c.loop-from.estate c.loop-from.invariant (none_left c.loop-from.state.flights c.in_default.ensures)
