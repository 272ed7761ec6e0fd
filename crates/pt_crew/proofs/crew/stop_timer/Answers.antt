-- `stop_timer`: its contract.
use Rattle.std.proofs.Common.{Option, sym, subst}
use Rattle.pt_timers.specs.declared.Timer.{Timer}
use Rattle.pt_crew.specs.Parts.{Stops}
use Rattle.pt_crew.proofs.Timing.{stopped}
use Rattle.pt_crew.proofs.crew.stop_timer.Goals as goal

pub returns-in-Some : goal.returns-in-Some
returns-in-Some c =
    subst (λ (o : Option Timer). Stops o c.args.timers.now c.cancel.new.self) (sym c.in-Some.is) (stopped c.in-Some.timer c.args.timers.now c.cancel.new.self c.cancel.result c.cancel.ensures.cancels)
