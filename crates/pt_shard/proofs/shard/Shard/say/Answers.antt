-- `Shard::say`: its clauses `does`, `extends` and `fit`, and the invariant of `self`.
use Rattle.std.proofs.Common.{◌≡◌, true, Some, refl, sym, subst}
use Rattle.pt_events.specs.declared.event.Event.TheVariants.{Said}
use Rattle.pt_shard.specs.Known.{knows}
use Rattle.pt_shard.specs.Calls.{Calls}
use Rattle.pt_shard.specs.Extends.{Extends}
use Rattle.pt_shard.specs.Whole.{parts_of, shard_of}
use Rattle.pt_shard.proofs.Acting.{Found}
use Rattle.pt_shard.proofs.Acted.{Acted, said}
use Rattle.pt_shard.proofs.shard.Shard.say.Goals as goal

-- what was told, whatever came of it
one : (c : goal.After-tell) → Acted (Unit {0}) (parts_of c.self.inside.config c.self.inside.ledger.book c.self.inside.processes) (parts_of c.self.inside.config c.tell.new.ledger.book c.self.inside.processes) c.args.from (Some (Said c.args.from c.args.to c.args.signal)) (tt {0}) c.tell.result
one c =
    let i = c.self.inside in
    let found : Found (parts_of i.config i.ledger.book i.processes) c.args.from = record { me = c.in-Some._process.now.me; s = c.in-Some._process.now.state; there = c.in-Some.ensures } in
    said (parts_of i.config i.ledger.book i.processes) c.self.invariant c.args.from found i.ledger refl c.tell.new.ledger
    c.args.to c.args.signal (subst (λ d. knows d c.args.to ≡ true) (sym c.self.view_is) c.requires.known) c.requires.plain c.tell.result c.tell.ensures

pub invariant_of-self : goal.invariant_of-self
invariant_of-self c = (one c).whole

pub returns-clause-does : goal.returns-clause-does
returns-clause-does c =
    subst (λ d. Calls c.args.from (Some (Said c.args.from c.args.to c.args.signal)) (tt {0}) d c.tell.result (shard_of (parts_of c.self.inside.config c.tell.new.ledger.book c.self.inside.processes))) c.self.view_is (one c).does

pub returns-clause-extends : goal.returns-clause-extends
returns-clause-extends c = subst (λ d. Extends d (shard_of (parts_of c.self.inside.config c.tell.new.ledger.book c.self.inside.processes))) c.self.view_is (one c).extends

pub returns-clause-fit : goal.returns-clause-fit
returns-clause-fit c = (one c).fit
