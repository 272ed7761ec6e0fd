-- `Process::accept`: its contract.
use Rattle.std.proofs.Common.{true, refl}
use Rattle.pt_signal.specs.declared.signal.Signal.TheVariants.{AliveSay}
use Rattle.pt_signal.specs.Process.{sent}
use Rattle.pt_process.proofs.process.Process.accept.Goals as goal

pub returns-in-AliveAsk : goal.returns-in-AliveAsk
returns-in-AliveAsk c =
    rw c.in-AliveAsk.is (refl, refl, (refl, (sent c.args.self.now.me c.args.from (AliveSay c.in-AliveAsk.question true), refl, refl), refl, refl))
