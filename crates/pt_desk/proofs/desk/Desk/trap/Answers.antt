-- `Desk::trap`: the invariant of `self`.
use Rattle.std.proofs.Common.{Some}
use Rattle.std.specs.Arc.{arc_value}
use Rattle.pt_events.specs.declared.event.Event.TheVariants.{Flag}
use Rattle.pt_shard.specs.ShardState.{state_in}
use Rattle.pt_desk.proofs.Calling.{calls_step, step_whole, own_flag}
use Rattle.pt_desk.proofs.Seating.{sight_of}
use Rattle.pt_desk.proofs.desk.Desk.trap.Goals as goal

pub invariant_of-self : goal.invariant_of-self
invariant_of-self c =
    let s = c.self.inside.shard in
    let does = c.trap.ensures.does in
    step_whole s c.trap.new.self c.self.inside.outs c.self.inside.ins (sight_of (arc_value c.self.inside.directory) c.self.inside.seat c.self.inside.before) c.self.inside.seat
    (calls_step c.args.p (Some (Flag c.args.p c.args.on)) (state_in s c.args.p).traps s c.trap.result c.trap.new.self (own_flag _ _) does) c.self.invariant c.trap.ensures.fit
