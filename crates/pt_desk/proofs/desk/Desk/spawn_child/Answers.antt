-- `Desk::spawn_child`: the invariant of `self`.
use Rattle.pt_desk.proofs.Calling.{bears_child_step, step_whole}
use Rattle.std.specs.Arc.{arc_value}
use Rattle.pt_desk.proofs.Seating.{sight_of}
use Rattle.pt_desk.proofs.desk.Desk.spawn_child.Goals as goal

pub invariant_of-self : goal.invariant_of-self
invariant_of-self c =
    let s = c.self.inside.shard in
    let does = c.spawn_child.ensures.does in
    step_whole s c.spawn_child.new.self c.self.inside.outs c.self.inside.ins (sight_of (arc_value c.self.inside.directory) c.self.inside.seat c.self.inside.before) c.self.inside.seat
    (bears_child_step c.args.parent c.args.linked s c.spawn_child.result c.spawn_child.new.self c.self.invariant.0.fit does) c.self.invariant c.spawn_child.ensures.fit
