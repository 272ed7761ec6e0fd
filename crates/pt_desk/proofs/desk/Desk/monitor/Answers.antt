-- `Desk::monitor`: its clause `goes_on`, and the invariant of `self`.
use Rattle.std.proofs.Common.{subst}
use Rattle.std.specs.Arc.{arc_value}
use Rattle.pt_desk.specs.DeskState.{GoesOn}
use Rattle.pt_desk.proofs.Posted.{of_parts}
use Rattle.pt_desk.proofs.Turning.{goes_on_then, shard_goes_on}
use Rattle.pt_desk.proofs.Calling.{step_whole, monitors_step}
use Rattle.pt_desk.proofs.Seating.{sight_of}
use Rattle.pt_desk.proofs.desk.Desk.monitor.Goals as goal

pub invariant_of-self : goal.invariant_of-self
invariant_of-self c =
    let i = c.self-2.inside in
    let s = i.shard in
    step_whole s c.make_monitor.new.self i.outs i.ins (sight_of (arc_value i.directory) i.seat i.before) i.seat
    (monitors_step c.args.w c.args.t s c.make_monitor.result c.make_monitor.new.self c.make_monitor.ensures.does) c.self-2.invariant c.make_monitor.ensures.fit

pub returns-clause-goes_on : goal.returns-clause-goes_on
returns-clause-goes_on c =
    let i = c.self-2.inside in
    let new = of_parts c.make_monitor.new.self i.outs i.ins (sight_of (arc_value i.directory) i.seat i.before) in
    goes_on_then c.args.self.now c.look.new.self new c.in_ok-look.ensures.goes_on
    (subst (λ d. GoesOn d new) c.self-2.view_is (shard_goes_on i.shard c.make_monitor.new.self i.outs i.ins (sight_of (arc_value i.directory) i.seat i.before) c.make_monitor.ensures.extends))
