-- `Shard::ask_alive`: its clauses `does`, `extends` and `fit`, and the invariant of `self`.
use Rattle.std.proofs.Common.{◌≡◌, true, Some, refl, sym, subst}
use Rattle.pt_signal.specs.declared.ids.Ref.{Ref}
use Rattle.pt_signal.specs.declared.signal.Signal.TheVariants.{AliveAsk}
use Rattle.pt_events.specs.declared.event.Event.TheVariants.{Said}
use Rattle.pt_shard.specs.Known.{knows}
use Rattle.pt_shard.specs.Calls.{Calls, new_ref}
use Rattle.pt_shard.specs.Extends.{Extends}
use Rattle.pt_shard.specs.Whole.{Parts, parts_of, shard_of}
use Rattle.pt_shard.proofs.Acting.{Found}
use Rattle.pt_shard.proofs.Acted.{Acted, asked_alive}
use Rattle.pt_shard.proofs.shard.Shard.ask_alive.Goals as goal

-- the desk before
abbrev old : (c : goal.After-ask) → Parts
old c = parts_of c.self.inside.config c.self.inside.ledger.book c.self.inside.processes

-- what was asked, whatever came of it
one : (c : goal.After-ask) → Acted Ref (old c) (parts_of c.self.inside.config c.ask.new.ledger.book c.self.inside.processes) c.args.p (Some (Said c.args.p c.args.t (AliveAsk (new_ref (shard_of (old c)))))) (new_ref (shard_of (old c))) c.ask.result
one c =
    let found : Found (old c) c.args.p = record { me = c.in-Some._process.now.me; s = c.in-Some._process.now.state; there = c.in-Some.ensures } in
    asked_alive (old c) c.self.invariant c.args.p found c.self.inside.ledger refl c.ask.new.ledger
    c.args.t (subst (λ d. knows d c.args.t ≡ true) (sym c.self.view_is) c.requires) c.ask.result c.ask.ensures

pub invariant_of-self : goal.invariant_of-self
invariant_of-self c = (one c).whole

pub returns-clause-does : goal.returns-clause-does
returns-clause-does c =
    subst (λ d. Calls c.args.p (Some (Said c.args.p c.args.t (AliveAsk (new_ref d)))) (new_ref d) d c.ask.result (shard_of (parts_of c.self.inside.config c.ask.new.ledger.book c.self.inside.processes))) c.self.view_is (one c).does

pub returns-clause-extends : goal.returns-clause-extends
returns-clause-extends c = subst (λ d. Extends d (shard_of (parts_of c.self.inside.config c.ask.new.ledger.book c.self.inside.processes))) c.self.view_is (one c).extends

pub returns-clause-fit : goal.returns-clause-fit
returns-clause-fit c = (one c).fit
