-- `post`: its contract, and its loop.
use Rattle.std.proofs.Common.{◌≡◌, true, ◌∷◌, refl, ap, sym, ◌∙◌, length, arith}
use Rattle.pt_signal.specs.declared.pid.Pid.{Pid}
use Rattle.pt_signal.specs.declared.signal.Signal.{Signal}
use Rattle.pt_signal.specs.Process.{sent}
use Rattle.pt_signal.proofs.Same.{same_pid_refl}
use Rattle.pt_events.specs.History.{is_between}
use Rattle.pt_auditor.proofs.Carried.{front_gone, posted_one, posted_all}
use Rattle.pt_auditor.proofs.desks.post.Goals as goal

own : (a b : Pid) (x : Signal) → is_between a b (sent a b x) ≡ true
own a b x = rw (same_pid_refl a, same_pid_refl b) refl

pub loop-from-preserved : goal.loop-from-preserved
loop-from-preserved c =
    let a = c.in-Some.from in
    let b = c.in-Some.to in
    let x = sent a b c.in-Some.signal in
    let rest = c.loop-from.sent in
    let gone = front_gone a b rest x c.in-Some.ensures (own a b c.in-Some.signal) ∙ ap (λ z. x ∷ z) (sym c.without_oldest-sent.ensures) in
    posted_one c.args.stamp c.args.lanes.now c.args.sent c.loop-from.lanes c.push.new.self x rest c.without_oldest-sent.result c.loop-from.invariant gone c.in_ok-push.ensures

pub loop-from-smaller : goal.loop-from-smaller
loop-from-smaller c =
    let a = c.in-Some.from in
    let b = c.in-Some.to in
    let x = sent a b c.in-Some.signal in
    let gone = front_gone a b c.loop-from.sent x c.in-Some.ensures (own a b c.in-Some.signal) ∙ ap (λ z. x ∷ z) (sym c.without_oldest-sent.ensures) in
    omega (arith, ap length gone)

pub returns : goal.returns
returns c = posted_all c.args.stamp c.args.lanes.now c.args.sent c.loop-from.lanes c.loop-from.sent c.loop-from.invariant c.in_default.ensures
