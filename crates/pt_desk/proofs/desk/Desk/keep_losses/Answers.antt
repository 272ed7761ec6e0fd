-- `Desk::keep_losses`: the invariant of `self`.
use Rattle.std.specs.Arc.{arc_value}
use Rattle.pt_desk.proofs.Seating.{sight_of, lost_whole}
use Rattle.pt_desk.proofs.desk.Desk.keep_losses.Goals as goal

pub invariant_of-self : goal.invariant_of-self
invariant_of-self c =
    let s = c.self.inside.shard in
    lost_whole s c.keep_losses.new.self c.self.inside.outs c.self.inside.ins (sight_of (arc_value c.self.inside.directory) c.self.inside.seat c.self.inside.before) c.self.inside.seat
    c.args.on s.lost c.keep_losses.ensures.keeps c.keep_losses.ensures.fit c.self.invariant
