-- `Shard::receive`: its contract, and the invariant of `self`.
use Rattle.std.proofs.Common.{Option, refl, subst}
use Rattle.pt_signal.specs.declared.item.Item.{Item}
use Rattle.pt_shard.specs.Calls.{Calls, take_event, first_match}
use Rattle.pt_shard.specs.Extends.{Extends}
use Rattle.pt_shard.specs.Whole.{parts_of, shard_of}
use Rattle.pt_shard.proofs.Acted.{Acted, left_with, received}
use Rattle.pt_shard.proofs.shard.Shard.receive.Goals as goal

-- what the call did, whatever came of it
one : (c : goal.After-self-2-1) → Acted (Option Item) (parts_of c.self.inside.config c.self.inside.ledger.book c.self.inside.processes) (left_with (parts_of c.self.inside.config c.self.inside.ledger.book c.self.inside.processes) c.self.invariant c.args.p c.in-Some.process.now c.in-Some.ensures.value c.take.new.ledger.book c.take.new.process) c.args.p (take_event (shard_of (parts_of c.self.inside.config c.self.inside.ledger.book c.self.inside.processes)) c.args.p c.args.pick) (first_match (shard_of (parts_of c.self.inside.config c.self.inside.ledger.book c.self.inside.processes)) c.args.p c.args.pick) c.take.result
one c =
    received (parts_of c.self.inside.config c.self.inside.ledger.book c.self.inside.processes) c.self.invariant c.args.p c.in-Some.process.now c.in-Some.ensures.value c.self.inside.ledger refl c.take.new.process c.take.new.ledger
    c.args.pick c.take.result c.take.ensures

pub invariant_of-self-2 : goal.invariant_of-self-2
invariant_of-self-2 c = (one c).whole

pub returns : goal.returns
returns c =
    let new = shard_of (left_with (parts_of c.self.inside.config c.self.inside.ledger.book c.self.inside.processes) c.self.invariant c.args.p c.in-Some.process.now c.in-Some.ensures.value c.take.new.ledger.book c.take.new.process) in
    record {
      does = subst (λ d. Calls c.args.p (take_event d c.args.p c.args.pick) (first_match d c.args.p c.args.pick) d c.take.result new) c.self.view_is (one c).does;
      extends = subst (λ d. Extends d new) c.self.view_is (one c).extends;
      fit = (one c).fit;
    }
