-- `Desk::look_from`: its clauses, and the invariant of `self`.
use Rattle.std.proofs.Common.{refl}
use Rattle.std.specs.Arc.{arc_value}
use Rattle.pt_desk.proofs.Seating.{sight_of, looking_whole}
use Rattle.pt_desk.proofs.Turning.{looking_goes_on}
use Rattle.pt_desk.proofs.desk.Desk.look_from.Goals as goal

pub invariant_of-self : goal.invariant_of-self
invariant_of-self c =
    let i = c.self.inside in
    looking_whole i.shard i.outs i.ins c.look_from.new.self (sight_of (arc_value i.directory) i.seat i.before) i.seat c.args.from c.look_from.ensures c.self.invariant
