-- `reserve_owed`: its clauses `letters` and `room`, and its loop over `i`, and what its call of `index_mut` asks, and its checked operations.
use Rattle.std.proofs.Common.{◌≡◌, ◌<◌, ◌≤◌, ◌+◌, ◌∙◌, map, length, get_or, slice_get, take, refl, sym, ap, subst, arith}
use Rattle.std.proofs.lemmas.List.{length-map, length-set, length-take, get_or-replicate, take_all}
use Rattle.std.proofs.lemmas.List.Sums.{count_by-le-length}
use Rattle.std.specs.Prelude.{count_by}
use Rattle.pt_signal.specs.declared.pid.Pid.{Pid}
use Rattle.pt_process.specs.Peers.{peers_held}
use Rattle.pt_shard.specs.LettersState.{LettersState}
use Rattle.pt_shard.specs.LedgerState.{is_of_desk}
use Rattle.pt_shard.proofs.Ledgers.{same_letters, counts_more, reserved_more, every_at}
use Rattle.pt_shard.proofs.ledger.reserve_owed.Goals as goal

pub loop-i-init : goal.loop-i-init
loop-i-init c = record {
  me = refl;
  state = refl;
  letters = refl;
  few = refl;
  counted = λ e within. get_or-replicate 64 e 0 0 within;
  room = λ e within. let none : count_by (is_of_desk e) (take 0 (peers_held c.args.process.now.state)) ≡ 0 = refl in omega (arith, none);
}

pub bounds-counts-desk : goal.bounds-counts-desk
bounds-counts-desk c =
    let got = ap (λ s. slice_get (peers_held s) c.loop-i.i) (sym c.loop-i.invariant.state) ∙ c.owed_to.ensures.to in
    let near = every_at (λ (q : Pid). q.shard < length c.args.outbox.now.items) (peers_held c.args.process.now.state) c.loop-i.i c.owed_to.result c.requires.near got in
    omega (arith, near, c.from-desk.ensures, c.requires.few)

pub overflow_add-count : goal.overflow_add-count
overflow_add-count c =
    let got = ap (λ s. slice_get (peers_held s) c.loop-i.i) (sym c.loop-i.invariant.state) ∙ c.owed_to.ensures.to in
    let near = every_at (λ (q : Pid). q.shard < length c.args.outbox.now.items) (peers_held c.args.process.now.state) c.loop-i.i c.owed_to.result c.requires.near got in
    let low : c.from-desk.result < 64 = omega (arith, near, c.from-desk.ensures, c.requires.few) in
    let count = c.loop-i.invariant.counted c.from-desk.result low in
    let most = count_by-le-length (is_of_desk c.from-desk.result) (take c.loop-i.i (peers_held c.args.process.now.state)) in
    let short = length-take c.loop-i.i (peers_held c.args.process.now.state) in
    omega (arith, count, most, short, c.loop-i-test.true)

pub bounds-counts-desk-in-loop-i : goal.bounds-counts-desk-in-loop-i
bounds-counts-desk-in-loop-i c =
    let got = ap (λ s. slice_get (peers_held s) c.loop-i.i) (sym c.loop-i.invariant.state) ∙ c.owed_to.ensures.to in
    let near = every_at (λ (q : Pid). q.shard < length c.args.outbox.now.items) (peers_held c.args.process.now.state) c.loop-i.i c.owed_to.result c.requires.near got in
    omega (arith, near, c.from-desk.ensures, c.requires.few)

pub index_mut-requires : goal.index_mut-requires
index_mut-requires c =
    let got = ap (λ s. slice_get (peers_held s) c.loop-i.i) (sym c.loop-i.invariant.state) ∙ c.owed_to.ensures.to in
    let near = every_at (λ (q : Pid). q.shard < length c.args.outbox.now.items) (peers_held c.args.process.now.state) c.loop-i.i c.owed_to.result c.requires.near got in
    let now = length-map c.args.outbox.now.items (λ (b : LettersState). b.letters) in
    let items = length-map c.loop-i.outbox.items (λ (b : LettersState). b.letters) in
    let inside : c.from-desk.result < length c.loop-i.outbox.items = omega (arith, near, c.from-desk.ensures, ap length c.loop-i.invariant.letters, now, items) in
    first_of (omega (arith, inside), grind (arith, inside))

pub returns-in_err-reserve-clause-letters : goal.returns-in_err-reserve-clause-letters
returns-in_err-reserve-clause-letters c =
    let got = ap (λ s. slice_get (peers_held s) c.loop-i.i) (sym c.loop-i.invariant.state) ∙ c.owed_to.ensures.to in
    let near = every_at (λ (q : Pid). q.shard < length c.args.outbox.now.items) (peers_held c.args.process.now.state) c.loop-i.i c.owed_to.result c.requires.near got in
    let now = length-map c.args.outbox.now.items (λ (b : LettersState). b.letters) in
    same_letters c.loop-i.outbox.items c.from-desk.result c.from-desk.result refl (omega (arith, near, c.from-desk.ensures, ap length c.loop-i.invariant.letters, now))
    c.index_mut.result.now c.reserve.new.self c.index_mut.ensures.value c.reserve.ensures.same ∙ c.loop-i.invariant.letters

pub loop-i-preserved : goal.loop-i-preserved
loop-i-preserved c =
    let qs = peers_held c.args.process.now.state in
    let within : c.loop-i.i < length qs = omega (arith, c.loop-i-test.true, c.owed_len-i-end.ensures.peers) in
    let got = ap (λ s. slice_get (peers_held s) c.loop-i.i) (sym c.loop-i.invariant.state) ∙ c.owed_to.ensures.to in
    let near = every_at (λ (q : Pid). q.shard < length c.args.outbox.now.items) qs c.loop-i.i c.owed_to.result c.requires.near got in
    let low : c.from-desk.result < 64 = omega (arith, near, c.from-desk.ensures, c.requires.few) in
    let now = length-map c.args.outbox.now.items (λ (b : LettersState). b.letters) in
    let items = length-map c.loop-i.outbox.items (λ (b : LettersState). b.letters) in
    let inside : c.from-desk.result < length c.loop-i.outbox.items = omega (arith, near, c.from-desk.ensures, ap length c.loop-i.invariant.letters, now, items) in
    record {
      me = c.owed_to.ensures.me ∙ c.loop-i.invariant.me;
      state = c.owed_to.ensures.state ∙ c.loop-i.invariant.state;
      letters =
          same_letters c.loop-i.outbox.items c.from-desk.result c.from-desk.result refl (omega (arith, near, c.from-desk.ensures, ap length c.loop-i.invariant.letters, now))
          c.index_mut.result.now c.reserve.new.self c.index_mut.ensures.value c.reserve.ensures.same ∙ c.loop-i.invariant.letters;
      few = length-set c.loop-i.counts c.from-desk.result (get_or c.loop-i.counts c.from-desk.result 0 + 1) ∙ c.loop-i.invariant.few;
      counted = λ e e_in. counts_more qs c.loop-i.i c.owed_to.result within got c.from-desk.result c.from-desk.ensures c.loop-i.counts c.loop-i.invariant.few low c.loop-i.invariant.counted e e_in;
      room = λ e e_in.
          let same = length-set c.loop-i.outbox.items c.from-desk.result c.reserve.new.self in
          reserved_more qs c.loop-i.i c.owed_to.result within got c.from-desk.result c.from-desk.ensures c.loop-i.counts c.loop-i.invariant.few low c.loop-i.invariant.counted
          c.loop-i.outbox.items c.reserve.new.self inside c.in_ok-reserve.ensures.room c.loop-i.invariant.room e (omega (arith, e_in, same));
    }

pub returns-clause-room : goal.returns-clause-room
returns-clause-room c = λ e within.
    let all : take c.loop-i.i (peers_held c.args.process.now.state) ≡ peers_held c.args.process.now.state = take_all c.loop-i.i (peers_held c.args.process.now.state) (omega (arith, c.loop-i-test.false, c.owed_len-i-end.ensures.peers)) in
    subst (λ qs. count_by (is_of_desk e) qs ≤ get_or (map (λ (b : LettersState). b.room) c.loop-i.outbox.items) e 0) all (c.loop-i.invariant.room e within)
