-- `Shard::refuse`: its clauses `extends` and `fit`, and the invariant of `self`.
use Rattle.std.proofs.Common.{◌≡◌, ◌+◌, max, [], true, sym, subst}
use Rattle.pt_events.specs.declared.event.Event.TheVariants.{Refused}
use Rattle.pt_shard.specs.ShardState.{lives}
use Rattle.pt_shard.specs.Known.{knows}
use Rattle.pt_shard.specs.Extends.{Extends}
use Rattle.pt_shard.specs.LedgerState.{Book, wrote}
use Rattle.pt_shard.specs.Whole.{Parts, parts_of, shard_of}
use Rattle.pt_shard.proofs.Acting.{Outcome}
use Rattle.pt_shard.proofs.Noting.{noted}
use Rattle.pt_shard.proofs.shard.Shard.refuse.Goals as goal

-- the desk before, and with the note
abbrev old : (c : goal.After-write) → Parts
old c = parts_of c.self.inside.config c.self.inside.ledger.book c.self.inside.processes

abbrev new : (c : goal.After-write) → Parts
new c = parts_of c.self.inside.config c.write.new.self.book c.self.inside.processes

one : (c : goal.After-write) → Outcome (old c) (new c) (max c.self.inside.ledger.book.clock c.args.seen + 1) (Refused c.args.p c.args.t)
one c =
    let same = c.in-Ok.ensures.does.0 in
    let wrote_is = c.write.ensures.book in
    noted (old c) c.self.invariant c.args.p (subst (λ d. lives d c.args.p ≡ true) (sym c.self.view_is) c.requires.alive)
    c.args.t (subst (λ d. knows d c.args.t ≡ true) (sym c.self.view_is) c.requires.known) c.args.seen
    c.in-Ok.ensures.does.1
    c.write.new.self.book (subst (λ (b : Book). c.write.new.self.book ≡ wrote (max b.clock c.args.seen + 1) (Refused c.args.p c.args.t) [] b) same wrote_is)

pub invariant_of-self : goal.invariant_of-self
invariant_of-self c = (one c).whole

pub returns-in-Ok-clause-extends : goal.returns-in-Ok-clause-extends
returns-in-Ok-clause-extends c = subst (λ d. Extends d (shard_of (new c))) c.self.view_is (one c).extends

pub returns-in-Ok-clause-fit : goal.returns-in-Ok-clause-fit
returns-in-Ok-clause-fit c = (one c).fit
