-- `run_until_idle`: its contract, and its loop over `left`.
use Rattle.std.proofs.Common.{◌≡◌, Option, Some, None, refl, rules, arith}
use Rattle.pt_workers.specs.declared.stillness.Stopped.{Stopped}
use Rattle.pt_epochs.proofs.Legs.{spent}
use Rattle.pt_epochs.proofs.Idling.{idle_failed, idle_found, idle_goes, idle_stopped}
use Rattle.pt_epochs.proofs.idle.run_until_idle.Goals as goal

pub returns-in_err-rested : goal.returns-in_err-rested
returns-in_err-rested g c = idle_failed c.from_residual.result c.in_err-rested.field-0.0 c.min-count.result (record { desks = c.one_leg.new.node; works = c.one_leg.new.crews.items }) c.loop-left.invariant c.in_err-rested.ensures c.loop-left-test.true (search rules)

pub returns-in-Some : goal.returns-in-Some
returns-in-Some g c =
    idle_stopped c.loop-left.invariant c.in_ok-rested.ensures c.in-Some.is (omega (arith, c.min-count.ensures)) (omega (arith, c.min-count.ensures, c.loop-left.invariant.some, c.loop-left-test.true))

none_of : (o : Option Stopped) → ((s : Stopped) → o ≡ Some s → ⊥) → o ≡ None
none_of None h = refl
none_of (Some s) h = absurd (h s refl)

pub returns-then-none_has_work : goal.returns-then-none_has_work
returns-then-none_has_work g c =
    idle_found c.loop-left.invariant c.in_ok-rested.ensures (none_of c.in_ok-rested.rested.stopped c.in_default.not-Some) c.as_slice.ensures.value c.desks.ensures.desks c.if-none_has_work.ensures
    (omega (arith, c.min-count.ensures)) (omega (arith, c.min-count.ensures, c.loop-left.invariant.some, c.loop-left-test.true))

pub loop-left-preserved : goal.loop-left-preserved
loop-left-preserved g c =
    idle_goes c.loop-left.invariant c.in_ok-rested.ensures (none_of c.in_ok-rested.rested.stopped c.in_default.not-Some) c.as_slice.ensures.value c.desks.ensures.desks c.if-none_has_work.ensures c.longer-leg.ensures (omega (arith, c.min-count.ensures))

pub returns : goal.returns
returns g c = spent c.loop-left.invariant.so_far (omega (arith, c.loop-left-test.false)) (omega arith)
