-- `Shard::exit`: its contract, and the invariant of `self`, and what its calls of `prepare_end`, `end` and `write_end` ask.
use Rattle.std.proofs.Common.{◌≡◌, ◌<◌, ◌^◌, ◌∙◌, length, map, Ok, Some, refl, ap, subst, arith}
use Rattle.pt_events.specs.declared.event.Event.TheVariants.{Left}
use Rattle.pt_process.specs.Peers.{peers_held}
use Rattle.pt_shard.specs.declared.loss.Loss.TheVariants.{Exited}
use Rattle.pt_shard.specs.LedgerState.{HasRoomToAll, losing}
use Rattle.pt_shard.specs.Sound.{Every}
use Rattle.pt_shard.specs.Calls.{Calls}
use Rattle.pt_shard.specs.Extends.{Extends}
use Rattle.pt_shard.specs.Processes.{with_process}
use Rattle.pt_shard.specs.Whole.{parts_of, shard_of}
use Rattle.pt_shard.proofs.Acted.{Acted, near_peers, still_there, owing_fits, exited, not_exited}
use Rattle.pt_shard.proofs.shard.Shard.exit.Goals as goal

pub prepare_end-requires-clause-near : goal.prepare_end-requires-clause-near
prepare_end-requires-clause-near c = near_peers (parts_of c.self.inside.config c.self.inside.ledger.book c.self.inside.processes) c.self.invariant c.args.p c.in-Some.process.now c.in-Some.ensures.value

-- no room ---------------------------------------------------------------------------------

refused : (c : goal.After-from_residual)
    → Acted (Unit {0}) (parts_of c.self.inside.config c.self.inside.ledger.book c.self.inside.processes)
    (parts_of c.self.inside.config c.prepare_end.new.self.book (with_process c.self.inside.processes c.args.p c.prepare_end.new.process)) c.args.p (Some (Left c.args.p c.args.reason)) (tt {0}) c.from_residual.result
refused c =
    not_exited (parts_of c.self.inside.config c.self.inside.ledger.book c.self.inside.processes) c.self.invariant c.args.p c.in-Some.process.now c.in-Some.ensures.value c.prepare_end.new.process c.prepare_end.ensures.me c.prepare_end.ensures.state
    c.args.reason (HasRoomToAll (peers_held c.in-Some.process.now.state)) c.self.inside.ledger c.prepare_end.new.self refl c.in_err-prepare_end.field-0.0 c.in_err-prepare_end.ensures.does c.from_residual.result c.from_residual.ensures

pub invariant_of-self-in_err-prepare_end : goal.invariant_of-self-in_err-prepare_end
invariant_of-self-in_err-prepare_end c = (refused c).whole

pub returns-in_err-prepare_end-clause-does : goal.returns-in_err-prepare_end-clause-does
returns-in_err-prepare_end-clause-does c =
    subst (λ d. Calls c.args.p (Some (Left c.args.p c.args.reason)) (tt {0}) d c.from_residual.result (shard_of (parts_of c.self.inside.config c.prepare_end.new.self.book (with_process c.self.inside.processes c.args.p c.prepare_end.new.process)))) c.self.view_is
    (refused c).does

pub returns-in_err-prepare_end-clause-fit : goal.returns-in_err-prepare_end-clause-fit
returns-in_err-prepare_end-clause-fit c = (refused c).fit

-- it ends ---------------------------------------------------------------------------------

pub end-estate-requires : goal.end-estate-requires
end-estate-requires c = still_there (parts_of c.self.inside.config c.self.inside.ledger.book c.self.inside.processes) c.self.invariant c.args.p c.in-Some.process.now c.in-Some.ensures.value c.prepare_end.new.process c.prepare_end.ensures.me c.prepare_end.ensures.state

-- what it owes is its own, goes to desks of the node, and finds room
owed : (c : goal.After-estate-1) → (c.end-estate.result.from ≡ c.args.p) × Every (λ l. l.to.shard < length c.prepare_end.new.self.book.outbox) c.end-estate.result.owed × HasRoomToAll (map (λ l. l.to) c.end-estate.result.owed) c.prepare_end.new.self
owed c =
    owing_fits (parts_of c.self.inside.config c.self.inside.ledger.book c.self.inside.processes) c.self.invariant c.args.p c.in-Some.process.now c.in-Some.ensures.value c.prepare_end.new.process c.prepare_end.ensures.me c.prepare_end.ensures.state
    c.args.reason c.end-estate.result c.end-estate.new.self c.end-estate.ensures.ends c.prepare_end.new.self c.in_ok-prepare_end.ensures.does.0 c.in_ok-prepare_end.ensures.does.3.0

pub write_end-requires-clause-from : goal.write_end-requires-clause-from
write_end-requires-clause-from c = (owed c).0

pub write_end-requires-clause-to : goal.write_end-requires-clause-to
write_end-requires-clause-to c = (owed c).1

pub write_end-requires-clause-letters : goal.write_end-requires-clause-letters
write_end-requires-clause-letters c = (owed c).2

one : (c : goal.After-lose_estate) → Acted (Unit {0}) (parts_of c.self.inside.config c.self.inside.ledger.book c.self.inside.processes) (parts_of c.self.inside.config c.lose_estate.new.self.book c.end-estate.new.self) c.args.p (Some (Left c.args.p c.args.reason)) (tt {0}) (Ok (tt {0}))
one c =
    let can : c.self.inside.ledger.book.clock < 2 ^ 62 = (let k = c.in_ok-prepare_end.ensures.does.1 in omega arith) in
    exited (parts_of c.self.inside.config c.self.inside.ledger.book c.self.inside.processes) c.self.invariant c.args.p c.in-Some.process.now c.in-Some.ensures.value c.prepare_end.new.process c.prepare_end.ensures.me c.prepare_end.ensures.state
    c.args.reason c.end-estate.result c.end-estate.new.self c.end-estate.ensures.desk c.end-estate.ensures.ends can c.prepare_end.new.self.book c.lose_estate.new.self.book c.in_ok-prepare_end.ensures.does.0
    (c.lose_estate.ensures
    ∙ ap (λ b. losing (Some (Exited c.args.p c.args.reason c.end-estate.result.waiting)) b) c.write_end.ensures.book)

pub invariant_of-self-2 : goal.invariant_of-self-2
invariant_of-self-2 c = (one c).whole

pub returns : goal.returns
returns c =
    let new = shard_of (parts_of c.self.inside.config c.lose_estate.new.self.book c.end-estate.new.self) in
    record {
      does = subst (λ d. Calls c.args.p (Some (Left c.args.p c.args.reason)) (tt {0}) d (Ok (tt {0})) new) c.self.view_is (one c).does;
      extends = subst (λ d. Extends d new) c.self.view_is (one c).extends;
      fit = (one c).fit;
    }
