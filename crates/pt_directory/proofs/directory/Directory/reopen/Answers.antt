-- `Directory::reopen`: its clauses `seat`, `version` and `stamp`, and its loop over `entry`, and what its calls of `index_mut` and `had_ended` ask, and its checked operations.
use Rattle.std.proofs.Common.{◌≡◌, ℕ, ◌<◌, List, map, get_or, take, set, sym, ap, ◌∙◌, arith}
use Rattle.std.proofs.lemmas.List.{take_more}
use Rattle.std.proofs.lemmas.List.Elements.{All-get_or}
use Rattle.pt_signal.specs.declared.pid.Pid.{Pid}
use Rattle.pt_directory.specs.Seats.{SeatState, reopened_seat}
use Rattle.pt_directory.specs.Views.{up_from}
use Rattle.pt_directory.proofs.Reopening.{count_seats, seat_is, seat_told, low_version, low_stamp, at_get_or}
use Rattle.pt_directory.proofs.directory.Directory.reopen.Goals as goal
use Rattle.pt_directory.proofs.directory.Directory.reopen.Goals.{After-index_mut-seat}

abbrev Good : ℕ → ℕ → Pid × ℕ → Type 0
Good desks slots x = (x.0.shard < desks) × (x.0.slot < slots) × (0 < x.0.version) × (0 < x.1)

abbrev nobody : Pid × ℕ
nobody = (record { shard = 0; slot = 0; version = 0 }, 0)

pub index_mut-seat-requires : goal.index_mut-seat-requires
index_mut-seat-requires c =
    let i = c.loop-entry.entry-index in
    let good = All-get_or (Good c.args.desks c.args.slots) c.args.ended.now i nobody c.loop-entry-test.true c.requires.ended.each in
    let n = count_seats c.loop-entry.seats.items (reopened_seat c.in_ok-directory.directory.name (take i c.args.ended.now)) c.args.desks c.loop-entry.invariant in
    omega (arith, good.0, n, c.loop-entry.seats.ok.0, c.from.ensures)

-- the entry at which the loop is
abbrev entry : After-index_mut-seat → Pid × ℕ
entry c = get_or c.args.ended.now c.loop-entry.entry-index nobody

-- the slot of the entry is there, and the seat of its desk was told the entries before it
told_so_far : (c : After-index_mut-seat) → Good c.args.desks c.args.slots (entry c) × (c.index_mut-seat.result.now ≡ reopened_seat c.in_ok-directory.directory.name (take c.loop-entry.entry-index c.args.ended.now) (entry c).0.shard)
told_so_far c =
    let i = c.loop-entry.entry-index in
    let good = All-get_or (Good c.args.desks c.args.slots) c.args.ended.now i nobody c.loop-entry-test.true c.requires.ended.each in
    let at : c.index_mut-seat.result.now ≡ get_or c.loop-entry.seats.items (entry c).0.shard c.index_mut-seat.result.now = c.index_mut-seat.ensures.value ∙ ap (λ (z : ℕ). get_or c.loop-entry.seats.items z c.index_mut-seat.result.now) c.from.ensures in (
      good,
      seat_is c.in_ok-directory.directory.name (take i c.args.ended.now) c.args.desks (entry c).0.shard c.loop-entry.seats.items c.index_mut-seat.result.now good.0 c.loop-entry.invariant at,
    )

pub had_ended-requires-clause-seat : goal.had_ended-requires-clause-seat
had_ended-requires-clause-seat c =
    let was = (told_so_far (goal.at.had_ended-requires-clause-seat c).After-index_mut-seat).1 in
    (ap (λ (s : SeatState). s.name) was, ap (λ (s : SeatState). s.homes) was)

pub had_ended-requires-clause-version : goal.had_ended-requires-clause-version
had_ended-requires-clause-version c =
    let so_far = told_so_far (goal.at.had_ended-requires-clause-version c).After-index_mut-seat in
    let here = at_get_or c.args.ended.now c.loop-entry.entry-index nobody c.loop-entry-test.true in
    low_version c.in_ok-directory.directory.name c.args.ended.now c.loop-entry.entry-index _ c.index_mut-seat.result.now c.requires.ended.apart here so_far.1 so_far.0.2

pub had_ended-requires-clause-stamp : goal.had_ended-requires-clause-stamp
had_ended-requires-clause-stamp c =
    let so_far = told_so_far (goal.at.had_ended-requires-clause-stamp c).After-index_mut-seat in
    let here = at_get_or c.args.ended.now c.loop-entry.entry-index nobody c.loop-entry-test.true in
    low_stamp c.in_ok-directory.directory.name c.args.ended.now c.loop-entry.entry-index _ c.index_mut-seat.result.now c.requires.ended.apart here so_far.1

pub loop-entry-preserved : goal.loop-entry-preserved
loop-entry-preserved c =
    let i = c.loop-entry.entry-index in
    let x = get_or c.args.ended.now i nobody in
    let so_far = told_so_far (goal.at.loop-entry-preserved c).After-index_mut-seat in
    ap (λ (z : ℕ). set c.loop-entry.seats.items z c.had_ended.new.seat) c.from.ensures
    ∙ seat_told c.in_ok-directory.directory.name (take i c.args.ended.now) x c.args.desks c.loop-entry.seats.items c.index_mut-seat.result.now c.had_ended.new.seat so_far.0.0 c.loop-entry.invariant so_far.1 c.had_ended.ensures
    ∙ ap (λ (l : List (Pid × ℕ)). map (reopened_seat c.in_ok-directory.directory.name l) (up_from 0 c.args.desks)) (sym (take_more c.args.ended.now i nobody c.loop-entry-test.true))
