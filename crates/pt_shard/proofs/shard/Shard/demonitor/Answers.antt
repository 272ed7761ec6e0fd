-- `Shard::demonitor`: its contract, and the invariant of `self`, and what its call of `close_monitor` asks.
use Rattle.std.proofs.Common.{Bool, is_some, refl, subst}
use Rattle.pt_shard.specs.Calls.{Calls, demonitor_event}
use Rattle.pt_shard.specs.Extends.{Extends}
use Rattle.pt_shard.specs.Whole.{parts_of, shard_of}
use Rattle.pt_shard.proofs.Acted.{Acted, left_with, gave_up, near_open}
use Rattle.pt_shard.proofs.shard.Shard.demonitor.Goals as goal

-- what the call did, whatever came of it
one : (c : goal.After-self-2-1) → Acted Bool (parts_of c.self.inside.config c.self.inside.ledger.book c.self.inside.processes) (left_with (parts_of c.self.inside.config c.self.inside.ledger.book c.self.inside.processes) c.self.invariant c.args.w c.in-Some.process.now c.in-Some.ensures.value c.close_monitor.new.ledger.book c.close_monitor.new.process) c.args.w (demonitor_event (shard_of (parts_of c.self.inside.config c.self.inside.ledger.book c.self.inside.processes)) c.args.w c.args.monitor c.args.flush) (is_some (demonitor_event (shard_of (parts_of c.self.inside.config c.self.inside.ledger.book c.self.inside.processes)) c.args.w c.args.monitor c.args.flush)) c.close_monitor.result
one c =
    gave_up (parts_of c.self.inside.config c.self.inside.ledger.book c.self.inside.processes) c.self.invariant c.args.w c.in-Some.process.now c.in-Some.ensures.value c.self.inside.ledger refl c.close_monitor.new.process c.close_monitor.new.ledger
    c.args.monitor c.args.flush c.close_monitor.result c.close_monitor.ensures

pub close_monitor-requires : goal.close_monitor-requires
close_monitor-requires c =
    near_open (parts_of c.self.inside.config c.self.inside.ledger.book c.self.inside.processes) c.self.invariant c.args.w c.in-Some.process.now c.in-Some.ensures.value c.args.monitor

pub invariant_of-self-2 : goal.invariant_of-self-2
invariant_of-self-2 c = (one c).whole

pub returns : goal.returns
returns c =
    let new = shard_of (left_with (parts_of c.self.inside.config c.self.inside.ledger.book c.self.inside.processes) c.self.invariant c.args.w c.in-Some.process.now c.in-Some.ensures.value c.close_monitor.new.ledger.book c.close_monitor.new.process) in
    record {
      does = subst (λ d. Calls c.args.w (demonitor_event d c.args.w c.args.monitor c.args.flush) (is_some (demonitor_event d c.args.w c.args.monitor c.args.flush)) d c.close_monitor.result new) c.self.view_is (one c).does;
      extends = subst (λ d. Extends d new) c.self.view_is (one c).extends;
      fit = (one c).fit;
    }
