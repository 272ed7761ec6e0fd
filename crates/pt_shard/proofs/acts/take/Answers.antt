-- `take`: its contract.
use Rattle.std.proofs.Common.{◌≡◌, ◌+◌, ◌<◌, ◌^◌, [], Some, ap, sym, ◌∙◌, arith}
use Rattle.pt_signal.specs.declared.item.Item.{Item}
use Rattle.pt_events.specs.declared.event.Event.TheVariants.{Took}
use Rattle.pt_process.specs.ProcessView.{ProcessView}
use Rattle.pt_shard.specs.LedgerState.{wrote}
use Rattle.pt_shard.proofs.Acting.{own_book}
use Rattle.pt_shard.proofs.Taken.{none_taken, one_taken, not_taken}
use Rattle.pt_shard.proofs.acts.take.Goals as goal

pub returns-in_default : goal.returns-in_default
returns-in_default c = none_taken c.args.p c.args.pick c.args.process.now c.args.ledger.now c.args.ledger.now c.in_default.ensures.0

pub returns-in_err-prepare : goal.returns-in_err-prepare
returns-in_err-prepare c =
    not_taken c.args.p c.args.pick c.args.process.now c.args.ledger.now c.prepare.new.self c.in-Some.place c.in-Some.ensures.0 c.in-Some.ensures.1 c.in_err-prepare.field-0.0 c.in_err-prepare.ensures.does c.from_residual.result c.from_residual.ensures

pub returns : goal.returns
returns c =
    let can : c.args.ledger.now.book.clock < 2 ^ 62 = (let n = c.in_ok-prepare.ensures.does.1 in omega arith) in
    let item = c.take_at-item.result in
    let both : Some c.item_at-waiting.result ≡ Some item = sym c.item_at-waiting.ensures ∙ c.take_at-item.ensures.item in
    let same : c.item_at-waiting.result ≡ item = cc in
    one_taken c.args.p c.args.pick c.args.process.now c.args.ledger.now c.write.new.self item c.take_at-item.new.self
    (c.in-Some.ensures.1 ∙ c.take_at-item.ensures.item) can
    (ap (λ (r : ProcessView). r.me) c.take_at-item.ensures.rest)
    (ap (λ (r : ProcessView). r.state) c.take_at-item.ensures.rest ∙ ap (λ items. record c.args.process.now.state { waiting = items }) c.in-Some.ensures.2)
    (own_book (Took c.args.p c.args.pick c.item_at-waiting.result) (λ n. []) c.prepare.new.self.book c.args.ledger.now.book c.write.new.self.book c.in_ok-prepare.ensures.does.0 c.write.ensures.book
    ∙ ap (λ (i : Item). wrote (c.args.ledger.now.book.clock + 1) (Took c.args.p c.args.pick i) [] c.args.ledger.now.book) same)
