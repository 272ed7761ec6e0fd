-- `Desk::receive`: the invariant of `self`.
use Rattle.pt_shard.specs.Calls.{take_event, first_match}
use Rattle.std.specs.Arc.{arc_value}
use Rattle.pt_desk.proofs.Calling.{calls_step, step_whole, own_take}
use Rattle.pt_desk.proofs.Seating.{sight_of}
use Rattle.pt_desk.proofs.desk.Desk.receive.Goals as goal

pub invariant_of-self : goal.invariant_of-self
invariant_of-self c =
    let s = c.self.inside.shard in
    let does = c.receive.ensures.does in
    step_whole s c.receive.new.self c.self.inside.outs c.self.inside.ins (sight_of (arc_value c.self.inside.directory) c.self.inside.seat c.self.inside.before) c.self.inside.seat
    (calls_step c.args.p (take_event s c.args.p c.args.pick) (first_match s c.args.p c.args.pick) s c.receive.result c.receive.new.self (own_take s c.args.p c.args.pick) does) c.self.invariant c.receive.ensures.fit
