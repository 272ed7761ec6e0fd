-- `Desk::meet`: its contract, and the invariant of `self` and `from`, and what its call of `meet` asks.
use Rattle.std.proofs.Common.{refl}
use Rattle.std.specs.Arc.{arc_value}
use Rattle.pt_desk.proofs.Seating.{sight_of, met_whole}
use Rattle.pt_desk.proofs.desk.Desk.meet.Goals as goal

pub meet-requires : goal.meet-requires
meet-requires c = rw (← c.from.view_is, ← c.self.view_is) at c.requires

pub invariant_of-self : goal.invariant_of-self
invariant_of-self c =
    let i = c.self.inside in
    met_whole i.shard i.outs i.outs i.ins c.meet.new.self (sight_of (arc_value i.directory) i.seat i.before) i.seat refl c.meet.ensures.ins c.self.invariant

pub invariant_of-from : goal.invariant_of-from
invariant_of-from c =
    let i = c.from.inside in
    met_whole i.shard i.outs c.meet.new.outs i.ins i.ins (sight_of (arc_value i.directory) i.seat i.before) i.seat c.meet.ensures.outs refl c.from.invariant

pub returns : goal.returns
returns c = rw (← c.self.view_is, ← c.from.view_is) (record { from_kept = refl; to_kept = refl; met = c.meet.ensures })
