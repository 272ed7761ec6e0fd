-- `Shard::unlink`: its contract, and the invariant of `self`.
use Rattle.std.proofs.Common.{◌≡◌, true, refl, sym, subst}
use Rattle.pt_shard.specs.Known.{knows}
use Rattle.pt_shard.specs.Calls.{Calls, unlink_event}
use Rattle.pt_shard.specs.Extends.{Extends}
use Rattle.pt_shard.specs.Whole.{parts_of, shard_of}
use Rattle.pt_shard.proofs.Acted.{Acted, left_with, unlinked}
use Rattle.pt_shard.proofs.shard.Shard.unlink.Goals as goal

-- what the call did, whatever came of it
one : (c : goal.After-self-2-1) → Acted (Unit {0}) (parts_of c.self.inside.config c.self.inside.ledger.book c.self.inside.processes) (left_with (parts_of c.self.inside.config c.self.inside.ledger.book c.self.inside.processes) c.self.invariant c.args.p c.in-Some.process.now c.in-Some.ensures.value c.drop_link.new.ledger.book c.drop_link.new.process) c.args.p (unlink_event (shard_of (parts_of c.self.inside.config c.self.inside.ledger.book c.self.inside.processes)) c.args.p c.args.to) (tt {0}) c.drop_link.result
one c =
    unlinked (parts_of c.self.inside.config c.self.inside.ledger.book c.self.inside.processes) c.self.invariant c.args.p c.in-Some.process.now c.in-Some.ensures.value c.self.inside.ledger refl c.drop_link.new.process c.drop_link.new.ledger
    c.args.to (subst (λ d. knows d c.args.to ≡ true) (sym c.self.view_is) c.requires) c.drop_link.result c.drop_link.ensures

pub invariant_of-self-2 : goal.invariant_of-self-2
invariant_of-self-2 c = (one c).whole

pub returns : goal.returns
returns c =
    let new = shard_of (left_with (parts_of c.self.inside.config c.self.inside.ledger.book c.self.inside.processes) c.self.invariant c.args.p c.in-Some.process.now c.in-Some.ensures.value c.drop_link.new.ledger.book c.drop_link.new.process) in
    record {
      does = subst (λ d. Calls c.args.p (unlink_event d c.args.p c.args.to) (tt {0}) d c.drop_link.result new) c.self.view_is (one c).does;
      extends = subst (λ d. Extends d new) c.self.view_is (one c).extends;
      fit = (one c).fit;
    }
