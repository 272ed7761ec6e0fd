-- `Desk::exit_signal`: the invariant of `self`.
use Rattle.std.proofs.Common.{Some}
use Rattle.std.specs.Arc.{arc_value}
use Rattle.pt_signal.specs.declared.signal.Signal.{Signal}
use Rattle.pt_events.specs.declared.event.Event.TheVariants.{Said}
use Rattle.pt_desk.proofs.Calling.{calls_step, step_whole, own_said}
use Rattle.pt_desk.proofs.Seating.{sight_of}
use Rattle.pt_desk.proofs.desk.Desk.exit_signal.Goals as goal

pub invariant_of-self : goal.invariant_of-self
invariant_of-self c =
    let s = c.self.inside.shard in
    let does = c.exit_signal.ensures.does in
    step_whole s c.exit_signal.new.self c.self.inside.outs c.self.inside.ins (sight_of (arc_value c.self.inside.directory) c.self.inside.seat c.self.inside.before) c.self.inside.seat
    (calls_step c.args.from (Some (Said c.args.from c.args.to (Signal.Exit c.args.reason))) tt s c.exit_signal.result c.exit_signal.new.self (own_said _ _ _) does) c.self.invariant c.exit_signal.ensures.fit
