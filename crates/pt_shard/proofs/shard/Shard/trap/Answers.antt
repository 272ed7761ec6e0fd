-- `Shard::trap`: its contract, and the invariant of `self`.
use Rattle.std.proofs.Common.{Bool, Some, refl, subst}
use Rattle.pt_events.specs.declared.event.Event.TheVariants.{Flag}
use Rattle.pt_shard.specs.ShardState.{state_in}
use Rattle.pt_shard.specs.Calls.{Calls}
use Rattle.pt_shard.specs.Extends.{Extends}
use Rattle.pt_shard.specs.Whole.{parts_of, shard_of}
use Rattle.pt_shard.proofs.Acted.{Acted, left_with, flagged}
use Rattle.pt_shard.proofs.shard.Shard.trap.Goals as goal

-- what the call did, whatever came of it
one : (c : goal.After-self-2-1) → Acted Bool (parts_of c.self.inside.config c.self.inside.ledger.book c.self.inside.processes) (left_with (parts_of c.self.inside.config c.self.inside.ledger.book c.self.inside.processes) c.self.invariant c.args.p c.in-Some.process.now c.in-Some.ensures.value c.set_flag.new.ledger.book c.set_flag.new.process) c.args.p (Some (Flag c.args.p c.args.on)) (state_in (shard_of (parts_of c.self.inside.config c.self.inside.ledger.book c.self.inside.processes)) c.args.p).traps c.set_flag.result
one c =
    flagged (parts_of c.self.inside.config c.self.inside.ledger.book c.self.inside.processes) c.self.invariant c.args.p c.in-Some.process.now c.in-Some.ensures.value c.self.inside.ledger refl c.set_flag.new.process c.set_flag.new.ledger
    c.args.on c.set_flag.result c.set_flag.ensures

pub invariant_of-self-2 : goal.invariant_of-self-2
invariant_of-self-2 c = (one c).whole

pub returns : goal.returns
returns c =
    let new = shard_of (left_with (parts_of c.self.inside.config c.self.inside.ledger.book c.self.inside.processes) c.self.invariant c.args.p c.in-Some.process.now c.in-Some.ensures.value c.set_flag.new.ledger.book c.set_flag.new.process) in
    record {
      does = subst (λ d. Calls c.args.p (Some (Flag c.args.p c.args.on)) (state_in d c.args.p).traps d c.set_flag.result new) c.self.view_is (one c).does;
      extends = subst (λ d. Extends d new) c.self.view_is (one c).extends;
      fit = (one c).fit;
    }
