-- `Scheduler::keep_exits`: its contract, and its loop over `place`.
use Rattle.std.proofs.Common.{[], refl, arith}
use Rattle.pt_scheduler.proofs.Keeping.{begun, through_all, through_one}
use Rattle.pt_scheduler.proofs.scheduler.Scheduler.keep_exits.Goals as goal

pub loop-place-init : goal.loop-place-init
loop-place-init c = record { done = []; rest = c.args.history.now; all = refl; count = refl; keeps = begun c.args.self.now }

pub loop-place-preserved : goal.loop-place-preserved
loop-place-preserved c =
    through_one c.args.history.now c.loop-place.place _ c.args.self.now c.loop-place.self c.keep_exit.new.self c.loop-place.invariant c.loop-place-test.true c.keep_exit.ensures

pub returns : goal.returns
returns c = through_all c.args.history.now c.loop-place.place c.args.self.now c.loop-place.self c.loop-place.invariant (omega (arith, c.loop-place-test.false))
