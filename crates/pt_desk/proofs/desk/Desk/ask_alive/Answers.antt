-- `Desk::ask_alive`: the invariant of `self`.
use Rattle.std.proofs.Common.{Some}
use Rattle.std.specs.Arc.{arc_value}
use Rattle.pt_signal.specs.declared.signal.Signal.TheVariants.{AliveAsk}
use Rattle.pt_events.specs.declared.event.Event.TheVariants.{Said}
use Rattle.pt_shard.specs.Calls.{new_ref}
use Rattle.pt_desk.proofs.Calling.{calls_step, step_whole, own_said}
use Rattle.pt_desk.proofs.Seating.{sight_of}
use Rattle.pt_desk.proofs.desk.Desk.ask_alive.Goals as goal

pub invariant_of-self : goal.invariant_of-self
invariant_of-self c =
    let s = c.self.inside.shard in
    let does = c.ask_alive.ensures.does in
    step_whole s c.ask_alive.new.self c.self.inside.outs c.self.inside.ins (sight_of (arc_value c.self.inside.directory) c.self.inside.seat c.self.inside.before) c.self.inside.seat
    (calls_step c.args.p (Some (Said c.args.p c.args.t (AliveAsk (new_ref s)))) (new_ref s) s c.ask_alive.result c.ask_alive.new.self (own_said _ _ _) does) c.self.invariant c.ask_alive.ensures.fit
