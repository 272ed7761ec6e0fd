-- `Ledger::write_end`: its clauses `to` and `room`, and its loop over `i`, and what its call of `put` asks.
use Rattle.std.proofs.Common.{◌≡◌, ◌<◌, ◌≤◌, ◌+◌, Some, length, map, drop, subst, sym, refl, ap, ◌∙◌, get_or, arith, slice_get}
use Rattle.std.proofs.lemmas.List.{length-map}
use Rattle.std.proofs.lemmas.Option.{slice_get-map}
use Rattle.std.specs.Option.{option_map}
use Rattle.std.specs.Prelude.{count_by}
use Rattle.pt_signal.specs.Process.{Sent}
use Rattle.pt_shard.specs.LedgerState.{Book, is_of_desk}
use Rattle.pt_shard.proofs.Ledgers.{owed_to, owed_more, room_next, room_less, one_more_length}
use Rattle.pt_shard.proofs.ledger.Ledger.write_end.Goals as goal

pub put-requires-clause-to : goal.put-requires-clause-to
put-requires-clause-to c =
    owed_to c.args.estate.now.owed c.args.from c.write-stamp.result c.loop-i.i c.args.event c.args.self.now c.loop-i.self c.loop-i.self c.owed-signal.result.0 c.owed-signal.result.1
    (omega (arith, c.loop-i-test.true, c.len-i-end.ensures)) c.args.estate.now refl c.requires.from c.owed-signal.ensures c.loop-i.invariant.0 c.requires.to

pub put-requires-clause-room : goal.put-requires-clause-room
put-requires-clause-room c =
    let tos = map (λ (x : Sent). x.to) c.args.estate.now.owed in
    let n = length-map c.args.estate.now.owed (λ (x : Sent). x.to) in
    let within : c.loop-i.i < length tos = omega (arith, c.loop-i-test.true, c.len-i-end.ensures, n) in
    let got : slice_get tos c.loop-i.i ≡ Some c.owed-signal.result.0 = slice_get-map (λ (x : Sent). x.to) c.args.estate.now.owed c.loop-i.i ∙ ap (option_map (λ (x : Sent). x.to)) c.owed-signal.ensures in
    let to =
    owed_to c.args.estate.now.owed c.args.from c.write-stamp.result c.loop-i.i c.args.event c.args.self.now c.loop-i.self c.loop-i.self c.owed-signal.result.0 c.owed-signal.result.1
    (omega (arith, c.loop-i-test.true, c.len-i-end.ensures)) c.args.estate.now refl c.requires.from c.owed-signal.ensures c.loop-i.invariant.0 c.requires.to in
    room_next tos c.loop-i.i c.owed-signal.result.0 within got c.loop-i.self.rooms (c.loop-i.invariant.1 c.owed-signal.result.0.shard to)

pub loop-i-preserved : goal.loop-i-preserved
loop-i-preserved c =
    let tos = map (λ (x : Sent). x.to) c.args.estate.now.owed in
    let n = length-map c.args.estate.now.owed (λ (x : Sent). x.to) in
    let within : c.loop-i.i < length tos = omega (arith, c.loop-i-test.true, c.len-i-end.ensures, n) in
    let got : slice_get tos c.loop-i.i ≡ Some c.owed-signal.result.0 = slice_get-map (λ (x : Sent). x.to) c.args.estate.now.owed c.loop-i.i ∙ ap (option_map (λ (x : Sent). x.to)) c.owed-signal.ensures in (
      owed_more c.args.estate.now.owed c.args.from c.write-stamp.result c.loop-i.i c.args.event c.args.self.now c.loop-i.self c.put.new.self c.owed-signal.result.0 c.owed-signal.result.1
          (omega (arith, c.loop-i-test.true, c.len-i-end.ensures)) c.args.estate.now refl c.requires.from c.owed-signal.ensures c.loop-i.invariant.0 c.put.ensures.book,
      λ e inside.
          let as_many = one_more_length c.loop-i.self.book.outbox c.put.new.self.book.outbox c.owed-signal.result.0.shard _ (ap (λ (b : Book). b.outbox) c.put.ensures.book) in
          let less = room_less tos c.loop-i.i c.owed-signal.result.0 within got c.loop-i.self.rooms e (c.loop-i.invariant.1 e (omega (arith, inside, as_many))) in
          subst (λ rooms. count_by (is_of_desk e) (drop (c.loop-i.i + 1) tos) ≤ get_or rooms e 0) (sym c.put.ensures.rooms) less,
      c.put.ensures.lost_room ∙ c.loop-i.invariant.2,
    )
