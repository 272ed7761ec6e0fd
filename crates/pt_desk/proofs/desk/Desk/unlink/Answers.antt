-- `Desk::unlink`: the invariant of `self`.
use Rattle.pt_shard.specs.Calls.{unlink_event}
use Rattle.std.specs.Arc.{arc_value}
use Rattle.pt_desk.proofs.Calling.{calls_step, step_whole, own_unlink}
use Rattle.pt_desk.proofs.Seating.{sight_of}
use Rattle.pt_desk.proofs.desk.Desk.unlink.Goals as goal

pub invariant_of-self : goal.invariant_of-self
invariant_of-self c =
    let s = c.self.inside.shard in
    let does = c.unlink.ensures.does in
    step_whole s c.unlink.new.self c.self.inside.outs c.self.inside.ins (sight_of (arc_value c.self.inside.directory) c.self.inside.seat c.self.inside.before) c.self.inside.seat
    (calls_step c.args.p (unlink_event s c.args.p c.args.to) tt s c.unlink.result c.unlink.new.self (own_unlink s c.args.p c.args.to) does) c.self.invariant c.unlink.ensures.fit
