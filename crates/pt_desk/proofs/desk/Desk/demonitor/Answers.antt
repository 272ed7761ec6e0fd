-- `Desk::demonitor`: the invariant of `self`.
use Rattle.std.specs.Prelude.{is_some}
use Rattle.std.specs.Arc.{arc_value}
use Rattle.pt_shard.specs.Calls.{demonitor_event}
use Rattle.pt_desk.proofs.Calling.{calls_step, step_whole, own_demonitor}
use Rattle.pt_desk.proofs.Seating.{sight_of}
use Rattle.pt_desk.proofs.desk.Desk.demonitor.Goals as goal

pub invariant_of-self : goal.invariant_of-self
invariant_of-self c =
    let s = c.self.inside.shard in
    let does = c.demonitor.ensures.does in
    step_whole s c.demonitor.new.self c.self.inside.outs c.self.inside.ins (sight_of (arc_value c.self.inside.directory) c.self.inside.seat c.self.inside.before) c.self.inside.seat
    (calls_step c.args.w (demonitor_event s c.args.w c.args.monitor c.args.flush) (is_some (demonitor_event s c.args.w c.args.monitor c.args.flush)) s c.demonitor.result c.demonitor.new.self (own_demonitor _ s c.args.w c.args.monitor c.args.flush) does) c.self.invariant c.demonitor.ensures.fit
