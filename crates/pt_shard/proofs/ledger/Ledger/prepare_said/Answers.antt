-- `Ledger::prepare_said`: its contract.
use Rattle.std.proofs.Common.{◌<◌, ◌∙◌, sym, ap, subst, length, arith}
use Rattle.pt_shard.specs.LedgerState.{Book, HasRoomAt}
use Rattle.pt_shard.proofs.Ledgers.{same_letters, room_there, out_of_memory}
use Rattle.pt_shard.proofs.ledger.Ledger.prepare_said.Goals as goal

pub returns-in_err-reserve : goal.returns-in_err-reserve
returns-in_err-reserve c =
    let before = ap (λ l. l.book) c.self.view_is ∙ c.in_ok-prepare.ensures.does.0 in
    let within = subst (λ (b : Book). c.args.to.shard < length b.outbox) (sym before) c.requires in
    let same = same_letters c.self.inside.outbox.items c.from.result c.args.to.shard c.from.ensures within c.index_mut.result.now c.reserve.new.self c.index_mut.ensures.value c.reserve.ensures.same in
    out_of_memory c.args.floor (HasRoomAt c.args.to.shard) c.args.self.now _ c.from_residual-in_err-reserve.result c.from_residual-in_err-reserve.ensures
    (ap (λ o. record { start = c.self.inside.origin.start; desk = c.self.inside.journal.desk; clock = c.self.inside.clock; journal = c.self.inside.journal.past; outbox = o; hold = c.self.inside.hold; keeps = c.self.inside.losses.keeps; lost = c.self.inside.losses.kept }) same ∙ before)
    c.in_ok-prepare.ensures.does.1

pub returns : goal.returns
returns c =
    let before = ap (λ l. l.book) c.self.view_is ∙ c.in_ok-prepare.ensures.does.0 in
    let within = subst (λ (b : Book). c.args.to.shard < length b.outbox) (sym before) c.requires in
    let same = same_letters c.self.inside.outbox.items c.from.result c.args.to.shard c.from.ensures within c.index_mut.result.now c.reserve.new.self c.index_mut.ensures.value c.reserve.ensures.same in
    let roomy = room_there c.self.inside.outbox.items c.from.result c.args.to.shard c.from.ensures within c.index_mut.result.now c.reserve.new.self c.index_mut.ensures.value in (
      ap (λ o. record { start = c.self.inside.origin.start; desk = c.self.inside.journal.desk; clock = c.self.inside.clock; journal = c.self.inside.journal.past; outbox = o; hold = c.self.inside.hold; keeps = c.self.inside.losses.keeps; lost = c.self.inside.losses.kept }) same ∙ before,
      c.in_ok-prepare.ensures.does.1,
      subst (λ l. 0 < l.room) (sym c.self.view_is) c.in_ok-prepare.ensures.does.2,
      let k = c.in_ok-reserve.ensures.room in omega (arith, k, roomy),
    )
