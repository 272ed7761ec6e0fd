-- `Runner::place`: what holds in its loop over `actor`.
use Rattle.std.proofs.Common.{◌≡◌, None, take}
use Rattle.std.specs.List.{find}
use Rattle.pt_signal.specs.Values.{same_pid}
use Rattle.pt_runner.specs.declared.runner.Actor.{Actor}
use Rattle.pt_runner.proofs.runner.Runner.place.Given as goal

abbrev pub invariant-loop-actor : goal.invariant-loop-actor
invariant-loop-actor l = find (λ (a : Actor). same_pid a.pid l.p) (take l.actor-index l.self.actors.items) ≡ None
