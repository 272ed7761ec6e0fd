-- `Shard::handle_in_place`: its clauses `does`, `extends`, `fit`, `near`, `lives` and `owes`, and the invariant of `self`, and what its calls of `prepare_ending` and `end_by` ask.
use Rattle.std.proofs.Common.{◌≡◌, ◌+◌, ◌<◌, max, length, map, Ok, Some, None, sym, ap, ◌∙◌, refl, subst, arith}
use Rattle.pt_events.specs.Journal.{letter}
use Rattle.pt_shard.specs.ShardState.{ShardState, Handles, came_event}
use Rattle.pt_shard.specs.declared.loss.Loss.TheVariants.{Exited}
use Rattle.pt_shard.specs.LedgerState.{Book, wrote, losing, is_of_desk}
use Rattle.pt_shard.specs.Processes.{with_process}
use Rattle.pt_shard.specs.Sound.{Every}
use Rattle.pt_shard.specs.Extends.{Extends}
use Rattle.pt_shard.specs.Whole.{parts_of, shard_of}
use Rattle.pt_shard.proofs.Acting.{Outcome}
use Rattle.pt_shard.proofs.Lent.{nobody}
use Rattle.pt_shard.proofs.Acted.{acting, stopped, stops, took_in, after_letter, near_peers}
use Rattle.pt_shard.proofs.Bearing.{Unchanged}
use Rattle.pt_shard.proofs.Receiving.{receipt_stamp, bounced, ended_outcome, owed_near, owed_counted, owing_from, still_in_mid, nobody_ends, who_ends}
use Rattle.pt_shard.proofs.shard.Shard.handle_in_place.Goals as goal

bounced_here : (c : goal.In_ok-bounce) → Outcome (parts_of c.self.inside.config c.self.inside.ledger.book c.self.inside.processes) (parts_of c.self.inside.config c.bounce.new.ledger.book c.self.inside.processes) (receipt_stamp (parts_of c.self.inside.config c.self.inside.ledger.book c.self.inside.processes) c.args.letter.now) (came_event c.args.letter.now)
bounced_here c =
    bounced (parts_of c.self.inside.config c.self.inside.ledger.book c.self.inside.processes) c.self.invariant c.args.letter.now (c.requires.here ∙ sym (ap (λ (d : ShardState). d.number) c.self.view_is)) (subst (λ (d : ShardState). c.args.letter.now.from.shard < d.config.desks) (sym c.self.view_is) c.requires.near) c.in_ok-bounce.ensures.0 c.bounce.new.ledger.book c.self.inside.processes refl refl (nobody c.self.inside.processes.desk c.self.inside.processes.table c.args.letter.now.to c.in_default.ensures.value)
    c.in_ok-bounce.ensures.1

pub invariant_of-self-in_default : goal.invariant_of-self-in_default
invariant_of-self-in_default c = (bounced_here c).whole

pub returns-in_default-clause-does : goal.returns-in_default-clause-does
returns-in_default-clause-does c =
    subst (λ d. Handles c.args.letter.now d (Ok (None)) (shard_of (parts_of c.self.inside.config c.bounce.new.ledger.book c.self.inside.processes))) c.self.view_is (c.in_ok-bounce.ensures.0, (bounced_here c).is, nobody_ends (parts_of c.self.inside.config c.self.inside.ledger.book c.self.inside.processes) c.self.invariant c.args.letter.now (nobody c.self.inside.processes.desk c.self.inside.processes.table c.args.letter.now.to c.in_default.ensures.value))

pub returns-in_default-clause-extends : goal.returns-in_default-clause-extends
returns-in_default-clause-extends c = subst (λ d. Extends d (shard_of (parts_of c.self.inside.config c.bounce.new.ledger.book c.self.inside.processes))) c.self.view_is (bounced_here c).extends

pub returns-in_default-clause-fit : goal.returns-in_default-clause-fit
returns-in_default-clause-fit c = (bounced_here c).fit

refused_living : (c : goal.After-from_residual-in_err-take_in) → Unchanged (parts_of c.self.inside.config c.self.inside.ledger.book c.self.inside.processes) (parts_of c.self.inside.config c.take_in.new.ledger.book (with_process c.self.inside.processes c.args.letter.now.to c.take_in.new.process))
refused_living c = stopped (parts_of c.self.inside.config c.self.inside.ledger.book c.self.inside.processes) c.self.invariant c.args.letter.now c.in-Some.process.now c.in-Some.ensures.value (c.requires.here ∙ sym (ap (λ (d : ShardState). d.number) c.self.view_is)) (subst (λ (d : ShardState). c.args.letter.now.from.shard < d.config.desks) (sym c.self.view_is) c.requires.near) c.self.inside.ledger refl c.take_in.new.process c.take_in.new.ledger c.in_err-take_in.field-0.0 c.in_err-take_in.ensures

pub invariant_of-self-in_err-take_in : goal.invariant_of-self-in_err-take_in
invariant_of-self-in_err-take_in c = (refused_living c).whole

pub returns-in_err-take_in-clause-does : goal.returns-in_err-take_in-clause-does
returns-in_err-take_in-clause-does c =
    subst (λ d. Handles c.args.letter.now d c.from_residual-in_err-take_in.result (shard_of (parts_of c.self.inside.config c.take_in.new.ledger.book (with_process c.self.inside.processes c.args.letter.now.to c.take_in.new.process)))) c.self.view_is
    (stops (parts_of c.self.inside.config c.self.inside.ledger.book c.self.inside.processes) c.self.invariant c.args.letter.now c.in-Some.process.now c.in-Some.ensures.value (c.requires.here ∙ sym (ap (λ (d : ShardState). d.number) c.self.view_is)) (subst (λ (d : ShardState). c.args.letter.now.from.shard < d.config.desks) (sym c.self.view_is) c.requires.near) c.self.inside.ledger refl c.take_in.new.process c.take_in.new.ledger c.in_err-take_in.field-0.0 c.in_err-take_in.ensures
    c.from_residual-in_err-take_in.result c.from_residual-in_err-take_in.ensures)

pub returns-in_err-take_in-clause-fit : goal.returns-in_err-take_in-clause-fit
returns-in_err-take_in-clause-fit c = (refused_living c).fit

lived_on : (c : goal.In_ok-take_in) → Outcome (parts_of c.self.inside.config c.self.inside.ledger.book c.self.inside.processes) (parts_of c.self.inside.config c.take_in.new.ledger.book (with_process c.self.inside.processes c.args.letter.now.to c.take_in.new.process)) (receipt_stamp (parts_of c.self.inside.config c.self.inside.ledger.book c.self.inside.processes) c.args.letter.now) (came_event c.args.letter.now)
lived_on c =
    took_in (parts_of c.self.inside.config c.self.inside.ledger.book c.self.inside.processes) c.self.invariant c.args.letter.now c.in-Some.process.now c.in-Some.ensures.value (c.requires.here ∙ sym (ap (λ (d : ShardState). d.number) c.self.view_is)) (subst (λ (d : ShardState). c.args.letter.now.from.shard < d.config.desks) (sym c.self.view_is) c.requires.near) c.self.inside.ledger refl c.take_in.new.process c.take_in.new.ledger (sym c.in_default-would_end.ensures) c.in_ok-take_in.ensures

pub invariant_of-self-in_default-would_end : goal.invariant_of-self-in_default-would_end
invariant_of-self-in_default-would_end c = (lived_on c).whole

pub returns-in_default-would_end-clause-does : goal.returns-in_default-would_end-clause-does
returns-in_default-would_end-clause-does c =
    subst (λ d. Handles c.args.letter.now d (Ok None) (shard_of (parts_of c.self.inside.config c.take_in.new.ledger.book (with_process c.self.inside.processes c.args.letter.now.to c.take_in.new.process)))) c.self.view_is
    (c.in_ok-take_in.ensures.0, (lived_on c).is, who_ends (parts_of c.self.inside.config c.self.inside.ledger.book c.self.inside.processes) c.self.invariant c.args.letter.now (acting (parts_of c.self.inside.config c.self.inside.ledger.book c.self.inside.processes) c.self.invariant c.args.letter.now.to c.in-Some.process.now c.in-Some.ensures.value) None (sym c.in_default-would_end.ensures))

pub returns-in_default-would_end-clause-extends : goal.returns-in_default-would_end-clause-extends
returns-in_default-would_end-clause-extends c = subst (λ d. Extends d (shard_of (parts_of c.self.inside.config c.take_in.new.ledger.book (with_process c.self.inside.processes c.args.letter.now.to c.take_in.new.process)))) c.self.view_is (lived_on c).extends

pub returns-in_default-would_end-clause-fit : goal.returns-in_default-would_end-clause-fit
returns-in_default-would_end-clause-fit c = (lived_on c).fit

pub prepare_ending-requires-clause-near : goal.prepare_ending-requires-clause-near
prepare_ending-requires-clause-near c = near_peers (parts_of c.self.inside.config c.self.inside.ledger.book c.self.inside.processes) c.self.invariant c.args.letter.now.to c.in-Some.process.now c.in-Some.ensures.value

refused_end : (c : goal.After-from_residual-in_err-prepare_ending) → Unchanged (parts_of c.self.inside.config c.self.inside.ledger.book c.self.inside.processes) (parts_of c.self.inside.config c.prepare_ending.new.ledger.book (with_process c.self.inside.processes c.args.letter.now.to c.prepare_ending.new.process))
refused_end c = stopped (parts_of c.self.inside.config c.self.inside.ledger.book c.self.inside.processes) c.self.invariant c.args.letter.now c.in-Some.process.now c.in-Some.ensures.value (c.requires.here ∙ sym (ap (λ (d : ShardState). d.number) c.self.view_is)) (subst (λ (d : ShardState). c.args.letter.now.from.shard < d.config.desks) (sym c.self.view_is) c.requires.near) c.self.inside.ledger refl c.prepare_ending.new.process c.prepare_ending.new.ledger c.in_err-prepare_ending.field-0.0 c.in_err-prepare_ending.ensures

pub invariant_of-self-in_err-prepare_ending : goal.invariant_of-self-in_err-prepare_ending
invariant_of-self-in_err-prepare_ending c = (refused_end c).whole

pub returns-in_err-prepare_ending-clause-does : goal.returns-in_err-prepare_ending-clause-does
returns-in_err-prepare_ending-clause-does c =
    subst (λ d. Handles c.args.letter.now d c.from_residual-in_err-prepare_ending.result (shard_of (parts_of c.self.inside.config c.prepare_ending.new.ledger.book (with_process c.self.inside.processes c.args.letter.now.to c.prepare_ending.new.process)))) c.self.view_is
    (stops (parts_of c.self.inside.config c.self.inside.ledger.book c.self.inside.processes) c.self.invariant c.args.letter.now c.in-Some.process.now c.in-Some.ensures.value (c.requires.here ∙ sym (ap (λ (d : ShardState). d.number) c.self.view_is)) (subst (λ (d : ShardState). c.args.letter.now.from.shard < d.config.desks) (sym c.self.view_is) c.requires.near) c.self.inside.ledger refl c.prepare_ending.new.process c.prepare_ending.new.ledger c.in_err-prepare_ending.field-0.0 c.in_err-prepare_ending.ensures
    c.from_residual-in_err-prepare_ending.result c.from_residual-in_err-prepare_ending.ensures)

pub returns-in_err-prepare_ending-clause-fit : goal.returns-in_err-prepare_ending-clause-fit
returns-in_err-prepare_ending-clause-fit c = (refused_end c).fit

pub end_by-requires-clause-lives : goal.end_by-requires-clause-lives
end_by-requires-clause-lives c = still_in_mid (parts_of c.self.inside.config c.self.inside.ledger.book c.self.inside.processes) c.self.invariant c.args.letter.now (acting (parts_of c.self.inside.config c.self.inside.ledger.book c.self.inside.processes) c.self.invariant c.args.letter.now.to c.in-Some.process.now c.in-Some.ensures.value) (with_process c.self.inside.processes c.args.letter.now.to c.prepare_ending.new.process)
    (after_letter (parts_of c.self.inside.config c.self.inside.ledger.book c.self.inside.processes) c.self.invariant c.args.letter.now c.in-Some.process.now c.in-Some.ensures.value (c.requires.here ∙ sym (ap (λ (d : ShardState). d.number) c.self.view_is)) (subst (λ (d : ShardState). c.args.letter.now.from.shard < d.config.desks) (sym c.self.view_is) c.requires.near) c.self.inside.ledger refl c.prepare_ending.new.process c.prepare_ending.new.ledger c.in_ok-prepare_ending.ensures.1 c.in_ok-prepare_ending.ensures.2)

pub end_by-requires-clause-owes : goal.end_by-requires-clause-owes
end_by-requires-clause-owes c after owing desk ends = (
  owing_from (parts_of c.self.inside.config c.self.inside.ledger.book c.self.inside.processes) c.self.invariant c.args.letter.now (c.requires.here ∙ sym (ap (λ (d : ShardState). d.number) c.self.view_is)) (subst (λ (d : ShardState). c.args.letter.now.from.shard < d.config.desks) (sym c.self.view_is) c.requires.near) c.in_ok-prepare_ending.ensures.0 (acting (parts_of c.self.inside.config c.self.inside.ledger.book c.self.inside.processes) c.self.invariant c.args.letter.now.to c.in-Some.process.now c.in-Some.ensures.value) c.in-Some-would_end.reason (sym c.in-Some-would_end.ensures) (with_process c.self.inside.processes c.args.letter.now.to c.prepare_ending.new.process) after refl desk (after_letter (parts_of c.self.inside.config c.self.inside.ledger.book c.self.inside.processes) c.self.invariant c.args.letter.now c.in-Some.process.now c.in-Some.ensures.value (c.requires.here ∙ sym (ap (λ (d : ShardState). d.number) c.self.view_is)) (subst (λ (d : ShardState). c.args.letter.now.from.shard < d.config.desks) (sym c.self.view_is) c.requires.near) c.self.inside.ledger refl c.prepare_ending.new.process c.prepare_ending.new.ledger c.in_ok-prepare_ending.ensures.1 c.in_ok-prepare_ending.ensures.2) owing ends,
  subst (λ (b : Book). Every (λ l. l.to.shard < length b.outbox) owing.owed) (sym c.in_ok-prepare_ending.ensures.3) (owed_near (parts_of c.self.inside.config c.self.inside.ledger.book c.self.inside.processes) c.self.invariant c.args.letter.now (c.requires.here ∙ sym (ap (λ (d : ShardState). d.number) c.self.view_is)) (subst (λ (d : ShardState). c.args.letter.now.from.shard < d.config.desks) (sym c.self.view_is) c.requires.near) c.in_ok-prepare_ending.ensures.0 (acting (parts_of c.self.inside.config c.self.inside.ledger.book c.self.inside.processes) c.self.invariant c.args.letter.now.to c.in-Some.process.now c.in-Some.ensures.value) c.in-Some-would_end.reason (sym c.in-Some-would_end.ensures) (with_process c.self.inside.processes c.args.letter.now.to c.prepare_ending.new.process) after refl desk (after_letter (parts_of c.self.inside.config c.self.inside.ledger.book c.self.inside.processes) c.self.invariant c.args.letter.now c.in-Some.process.now c.in-Some.ensures.value (c.requires.here ∙ sym (ap (λ (d : ShardState). d.number) c.self.view_is)) (subst (λ (d : ShardState). c.args.letter.now.from.shard < d.config.desks) (sym c.self.view_is) c.requires.near) c.self.inside.ledger refl c.prepare_ending.new.process c.prepare_ending.new.ledger c.in_ok-prepare_ending.ensures.1 c.in_ok-prepare_ending.ensures.2) owing ends),
  λ e within.
      let room = c.in_ok-prepare_ending.ensures.5 e within in
      let fewer = owed_counted (parts_of c.self.inside.config c.self.inside.ledger.book c.self.inside.processes) c.self.invariant c.args.letter.now (c.requires.here ∙ sym (ap (λ (d : ShardState). d.number) c.self.view_is)) (subst (λ (d : ShardState). c.args.letter.now.from.shard < d.config.desks) (sym c.self.view_is) c.requires.near) c.in_ok-prepare_ending.ensures.0 (acting (parts_of c.self.inside.config c.self.inside.ledger.book c.self.inside.processes) c.self.invariant c.args.letter.now.to c.in-Some.process.now c.in-Some.ensures.value) c.in-Some-would_end.reason (sym c.in-Some-would_end.ensures) (with_process c.self.inside.processes c.args.letter.now.to c.prepare_ending.new.process) after refl desk (after_letter (parts_of c.self.inside.config c.self.inside.ledger.book c.self.inside.processes) c.self.invariant c.args.letter.now c.in-Some.process.now c.in-Some.ensures.value (c.requires.here ∙ sym (ap (λ (d : ShardState). d.number) c.self.view_is)) (subst (λ (d : ShardState). c.args.letter.now.from.shard < d.config.desks) (sym c.self.view_is) c.requires.near) c.self.inside.ledger refl c.prepare_ending.new.process c.prepare_ending.new.ledger c.in_ok-prepare_ending.ensures.1 c.in_ok-prepare_ending.ensures.2) owing ends (is_of_desk e) in
      omega (arith, room, fewer),
)

ended_by_it : (c : goal.After-result-1) → Outcome (parts_of c.self.inside.config c.self.inside.ledger.book c.self.inside.processes) (parts_of c.self.inside.config c.end_by.new.ledger.book c.end_by.new.processes) (receipt_stamp (parts_of c.self.inside.config c.self.inside.ledger.book c.self.inside.processes) c.args.letter.now) (came_event c.args.letter.now)
ended_by_it c =
    ended_outcome (parts_of c.self.inside.config c.self.inside.ledger.book c.self.inside.processes) c.self.invariant c.args.letter.now (c.requires.here ∙ sym (ap (λ (d : ShardState). d.number) c.self.view_is)) (subst (λ (d : ShardState). c.args.letter.now.from.shard < d.config.desks) (sym c.self.view_is) c.requires.near) c.in_ok-prepare_ending.ensures.0 (acting (parts_of c.self.inside.config c.self.inside.ledger.book c.self.inside.processes) c.self.invariant c.args.letter.now.to c.in-Some.process.now c.in-Some.ensures.value) c.in-Some-would_end.reason (sym c.in-Some-would_end.ensures) (with_process c.self.inside.processes c.args.letter.now.to c.prepare_ending.new.process) c.end_by.new.processes refl c.end_by.ensures.1 (after_letter (parts_of c.self.inside.config c.self.inside.ledger.book c.self.inside.processes) c.self.invariant c.args.letter.now c.in-Some.process.now c.in-Some.ensures.value (c.requires.here ∙ sym (ap (λ (d : ShardState). d.number) c.self.view_is)) (subst (λ (d : ShardState). c.args.letter.now.from.shard < d.config.desks) (sym c.self.view_is) c.requires.near) c.self.inside.ledger refl c.prepare_ending.new.process c.prepare_ending.new.ledger c.in_ok-prepare_ending.ensures.1 c.in_ok-prepare_ending.ensures.2) c.end_by.ensures.0 c.end_by.ensures.2 c.end_by.new.ledger.book
    (subst (λ (b : Book). c.end_by.new.ledger.book ≡ losing (Some (Exited c.args.letter.now.to c.in-Some-would_end.reason c.end_by.ensures.0.waiting))
    (wrote (max b.clock c.args.letter.now.stamp + 1) (came_event c.args.letter.now) (map (letter (max b.clock c.args.letter.now.stamp + 1)) c.end_by.ensures.0.owed) b))
    c.in_ok-prepare_ending.ensures.3 c.end_by.ensures.3)

pub invariant_of-self-2 : goal.invariant_of-self-2
invariant_of-self-2 c = (ended_by_it c).whole

pub returns-clause-does : goal.returns-clause-does
returns-clause-does c =
    subst (λ d. Handles c.args.letter.now d (Ok (Some c.args.letter.now.to)) (shard_of (parts_of c.self.inside.config c.end_by.new.ledger.book c.end_by.new.processes))) c.self.view_is
    (c.in_ok-prepare_ending.ensures.0, (ended_by_it c).is, who_ends (parts_of c.self.inside.config c.self.inside.ledger.book c.self.inside.processes) c.self.invariant c.args.letter.now (acting (parts_of c.self.inside.config c.self.inside.ledger.book c.self.inside.processes) c.self.invariant c.args.letter.now.to c.in-Some.process.now c.in-Some.ensures.value) (Some c.in-Some-would_end.reason) (sym c.in-Some-would_end.ensures))

pub returns-clause-extends : goal.returns-clause-extends
returns-clause-extends c = subst (λ d. Extends d (shard_of (parts_of c.self.inside.config c.end_by.new.ledger.book c.end_by.new.processes))) c.self.view_is (ended_by_it c).extends

pub returns-clause-fit : goal.returns-clause-fit
returns-clause-fit c = (ended_by_it c).fit
