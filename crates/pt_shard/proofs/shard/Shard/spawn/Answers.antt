-- `Shard::spawn`: its clauses `does`, `known`, `extends` and `fit`, and the invariant of `self`.
use Rattle.std.proofs.Common.{◌<◌, ◌^◌, Ok, None, [], sym, subst, arith}
use Rattle.pt_events.specs.declared.event.Event.TheVariants.{Born}
use Rattle.pt_shard.specs.Calls.{Bears}
use Rattle.pt_shard.specs.Extends.{Extends}
use Rattle.pt_shard.specs.Whole.{parts_of, shard_of}
use Rattle.pt_shard.proofs.Acting.{own_book}
use Rattle.pt_shard.proofs.Bearing.{BirthOutcome, spawned}
use Rattle.pt_shard.proofs.shard.Shard.spawn.Goals as goal

born : (c : goal.After-write) → BirthOutcome (shard_of (parts_of c.self.inside.config c.self.inside.ledger.book c.self.inside.processes)) (parts_of c.self.inside.config c.write.new.self.book c.admit.new.self) c.in-Some.pid None None
born c =
    let can : c.self.inside.ledger.book.clock < 2 ^ 62 = (let k = c.in_ok-prepare.ensures.does.1 in omega arith) in
    spawned (parts_of c.self.inside.config c.self.inside.ledger.book c.self.inside.processes) c.self.invariant c.in-Some.pid c.in-Some.ensures can c.new.result c.new.ensures.me c.new.ensures.state c.admit.new.self c.admit.ensures.desk c.in_ok-admit.ensures.ok c.write.new.self.book
    (own_book (Born c.in-Some.pid None None) (λ n. []) c.prepare.new.self.book c.self.inside.ledger.book c.write.new.self.book c.in_ok-prepare.ensures.does.0 c.write.ensures.book)

pub invariant_of-self-2 : goal.invariant_of-self-2
invariant_of-self-2 c = (born c).whole

pub returns-clause-does : goal.returns-clause-does
returns-clause-does c =
    let can : c.self.inside.ledger.book.clock < 2 ^ 62 = (let k = c.in_ok-prepare.ensures.does.1 in omega arith) in
    subst (λ d. Bears None None d (Ok c.in-Some.pid) (shard_of (parts_of c.self.inside.config c.write.new.self.book c.admit.new.self))) c.self.view_is (can, sym c.in-Some.ensures, (born c).is)

pub returns-clause-known : goal.returns-clause-known
returns-clause-known c = ((born c).here, (born c).known)

pub returns-clause-extends : goal.returns-clause-extends
returns-clause-extends c = subst (λ d. Extends d (shard_of (parts_of c.self.inside.config c.write.new.self.book c.admit.new.self))) c.self.view_is (born c).extends

pub returns-clause-fit : goal.returns-clause-fit
returns-clause-fit c = (born c).fit
