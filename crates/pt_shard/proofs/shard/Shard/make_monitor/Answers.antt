-- `Shard::make_monitor`: its contract, and the invariant of `self`, and what its call of `open_monitor` asks.
use Rattle.std.proofs.Common.{◌≡◌, true, Some, refl, sym, subst}
use Rattle.pt_signal.specs.declared.ids.Ref.{Ref}
use Rattle.pt_signal.specs.declared.signal.Signal.TheVariants.{Monitor}
use Rattle.pt_events.specs.declared.event.Event.TheVariants.{Said}
use Rattle.pt_shard.specs.Known.{knows}
use Rattle.pt_shard.specs.Calls.{Monitors, new_ref}
use Rattle.pt_shard.specs.Extends.{Extends}
use Rattle.pt_shard.specs.Whole.{parts_of, shard_of}
use Rattle.pt_shard.proofs.Outcomes.{monitors}
use Rattle.pt_shard.proofs.Acted.{Acted, left_with, watched, not_watching}
use Rattle.pt_shard.proofs.shard.Shard.make_monitor.Goals as goal

-- what the call did, whatever came of it
one : (c : goal.After-self-2-1) → Acted Ref (parts_of c.self.inside.config c.self.inside.ledger.book c.self.inside.processes) (left_with (parts_of c.self.inside.config c.self.inside.ledger.book c.self.inside.processes) c.self.invariant c.args.w c.in-Some.process.now c.in-Some.ensures.value c.open_monitor.new.ledger.book c.open_monitor.new.process) c.args.w (Some (Said c.args.w c.args.t (Monitor (new_ref (shard_of (parts_of c.self.inside.config c.self.inside.ledger.book c.self.inside.processes)))))) (new_ref (shard_of (parts_of c.self.inside.config c.self.inside.ledger.book c.self.inside.processes))) c.open_monitor.result
one c =
    watched (parts_of c.self.inside.config c.self.inside.ledger.book c.self.inside.processes) c.self.invariant c.args.w c.in-Some.process.now c.in-Some.ensures.value c.self.inside.ledger refl c.open_monitor.new.process c.open_monitor.new.ledger
    c.args.t (subst (λ d. knows d c.args.t ≡ true) (sym c.self.view_is) c.requires.known) c.requires.other c.open_monitor.result c.open_monitor.ensures

pub open_monitor-requires-clause-new : goal.open_monitor-requires-clause-new
open_monitor-requires-clause-new c =
    not_watching (parts_of c.self.inside.config c.self.inside.ledger.book c.self.inside.processes) c.self.invariant c.args.w c.in-Some.process.now c.in-Some.ensures.value

pub invariant_of-self-2 : goal.invariant_of-self-2
invariant_of-self-2 c = (one c).whole

pub returns : goal.returns
returns c =
    let new = shard_of (left_with (parts_of c.self.inside.config c.self.inside.ledger.book c.self.inside.processes) c.self.invariant c.args.w c.in-Some.process.now c.in-Some.ensures.value c.open_monitor.new.ledger.book c.open_monitor.new.process) in
    record {
      does = subst (λ d. Monitors c.args.w c.args.t d c.open_monitor.result new) c.self.view_is (monitors c.args.w c.args.t (shard_of (parts_of c.self.inside.config c.self.inside.ledger.book c.self.inside.processes)) new c.requires.other c.open_monitor.result (one c).does);
      extends = subst (λ d. Extends d new) c.self.view_is (one c).extends;
      fit = (one c).fit;
    }
