-- `Desk::next_loss`: the invariant of `self`.
use Rattle.std.proofs.Common.{drop}
use Rattle.std.specs.Arc.{arc_value}
use Rattle.pt_desk.proofs.Seating.{sight_of, lost_whole}
use Rattle.pt_desk.proofs.desk.Desk.next_loss.Goals as goal

pub invariant_of-self : goal.invariant_of-self
invariant_of-self c =
    let s = c.self.inside.shard in
    lost_whole s c.next_loss.new.self c.self.inside.outs c.self.inside.ins (sight_of (arc_value c.self.inside.directory) c.self.inside.seat c.self.inside.before) c.self.inside.seat
    s.keeps (drop 1 s.lost) c.next_loss.ensures.rest c.next_loss.ensures.fit c.self.invariant
