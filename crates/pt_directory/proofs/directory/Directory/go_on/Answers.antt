-- `Directory::go_on`: its loop over `entry`, and what its calls of `index_mut` and `tell_late` ask.
use Rattle.std.proofs.Common.{◌≡◌, ℕ, ◌≤◌, List, map, get_or, take, set, sym, ap, ◌∙◌, subst, arith}
use Rattle.std.proofs.lemmas.List.{take_more}
use Rattle.std.proofs.lemmas.List.Elements.{All-get_or}
use Rattle.pt_signal.specs.declared.pid.Pid.{Pid}
use Rattle.pt_directory.specs.Seats.{DirectoryState, SeatState, HasWordsFor, late_seat}
use Rattle.pt_directory.specs.Views.{last_stamp, deaths_at, up_from}
use Rattle.pt_directory.proofs.Reopening.{count_seats}
use Rattle.pt_directory.proofs.Late.{late_is, late_told, late_stamp, All-take-at}
use Rattle.pt_directory.proofs.directory.Directory.go_on.Goals as goal

abbrev Good : DirectoryState → ℕ → Pid × ℕ → Type 0
Good d n x = HasWordsFor d x.0 × (x.1 ≡ n)

pub index_mut-seat-requires : goal.index_mut-seat-requires
index_mut-seat-requires c =
    let i = c.loop-entry.entry-index in
    let x = get_or c.args.ended.now i (record { shard = 0; slot = 0; version = 0 }, 0) in
    let good = All-get_or (Good c.args.self.now c.requires.ended.stamp) c.args.ended.now i (record { shard = 0; slot = 0; version = 0 }, 0) c.loop-entry-test.true c.requires.ended.each in
    let n = count_seats c.loop-entry.seats.items (late_seat c.args.self.now.name c.args.seat.deaths (take i c.args.ended.now)) c.args.self.now.desks c.loop-entry.invariant in
    omega (arith, good.0.0, n, c.loop-entry.seats.ok.0, c.from.ensures)

pub tell_late-requires-clause-seat : goal.tell_late-requires-clause-seat
tell_late-requires-clause-seat c =
    let i = c.loop-entry.entry-index in
    let x = get_or c.args.ended.now i (record { shard = 0; slot = 0; version = 0 }, 0) in
    let good = All-get_or (Good c.args.self.now c.requires.ended.stamp) c.args.ended.now i (record { shard = 0; slot = 0; version = 0 }, 0) c.loop-entry-test.true c.requires.ended.each in
    let at : c.index_mut-seat.result.now ≡ get_or c.loop-entry.seats.items x.0.shard c.index_mut-seat.result.now = c.index_mut-seat.ensures.value ∙ ap (λ (z : ℕ). get_or c.loop-entry.seats.items z c.index_mut-seat.result.now) c.from.ensures in
    let was = late_is c.args.self.now.name c.args.seat.deaths (take i c.args.ended.now) c.args.self.now.desks x.0.shard c.loop-entry.seats.items c.index_mut-seat.result.now good.0.0 c.loop-entry.invariant at in
    (ap (λ (s : SeatState). s.name) was, ap (λ (s : SeatState). s.homes) was)

pub tell_late-requires-clause-marked : goal.tell_late-requires-clause-marked
tell_late-requires-clause-marked c =
    let i = c.loop-entry.entry-index in
    let x = get_or c.args.ended.now i (record { shard = 0; slot = 0; version = 0 }, 0) in
    let good = All-get_or (Good c.args.self.now c.requires.ended.stamp) c.args.ended.now i (record { shard = 0; slot = 0; version = 0 }, 0) c.loop-entry-test.true c.requires.ended.each in
    let at : c.index_mut-seat.result.now ≡ get_or c.loop-entry.seats.items x.0.shard c.index_mut-seat.result.now = c.index_mut-seat.ensures.value ∙ ap (λ (z : ℕ). get_or c.loop-entry.seats.items z c.index_mut-seat.result.now) c.from.ensures in
    let was = late_is c.args.self.now.name c.args.seat.deaths (take i c.args.ended.now) c.args.self.now.desks x.0.shard c.loop-entry.seats.items c.index_mut-seat.result.now good.0.0 c.loop-entry.invariant at in
    ap (λ (s : SeatState). s.marked) was ∙ sym (ap (λ (s : SeatState). s.deaths) was)

pub tell_late-requires-clause-stamp : goal.tell_late-requires-clause-stamp
tell_late-requires-clause-stamp c =
    let i = c.loop-entry.entry-index in
    let x = get_or c.args.ended.now i (record { shard = 0; slot = 0; version = 0 }, 0) in
    let good = All-get_or (Good c.args.self.now c.requires.ended.stamp) c.args.ended.now i (record { shard = 0; slot = 0; version = 0 }, 0) c.loop-entry-test.true c.requires.ended.each in
    let at : c.index_mut-seat.result.now ≡ get_or c.loop-entry.seats.items x.0.shard c.index_mut-seat.result.now = c.index_mut-seat.ensures.value ∙ ap (λ (z : ℕ). get_or c.loop-entry.seats.items z c.index_mut-seat.result.now) c.from.ensures in
    let was = late_is c.args.self.now.name c.args.seat.deaths (take i c.args.ended.now) c.args.self.now.desks x.0.shard c.loop-entry.seats.items c.index_mut-seat.result.now good.0.0 c.loop-entry.invariant at in
    subst (λ (n : ℕ). last_stamp (deaths_at x.0.shard x.0.slot c.index_mut-seat.result.now.deaths) ≤ n) (sym good.1)
    (late_stamp c.args.self.now.name c.args.seat.deaths (take i c.args.ended.now) c.requires.ended.stamp x.0.shard x.0.slot c.index_mut-seat.result.now was c.requires.ended.low
    (λ j y there. (All-take-at (Good c.args.self.now c.requires.ended.stamp) c.args.ended.now i c.requires.ended.each j y there).1))

pub loop-entry-preserved : goal.loop-entry-preserved
loop-entry-preserved c =
    let i = c.loop-entry.entry-index in
    let x = get_or c.args.ended.now i (record { shard = 0; slot = 0; version = 0 }, 0) in
    let good = All-get_or (Good c.args.self.now c.requires.ended.stamp) c.args.ended.now i (record { shard = 0; slot = 0; version = 0 }, 0) c.loop-entry-test.true c.requires.ended.each in
    let at : c.index_mut-seat.result.now ≡ get_or c.loop-entry.seats.items x.0.shard c.index_mut-seat.result.now = c.index_mut-seat.ensures.value ∙ ap (λ (z : ℕ). get_or c.loop-entry.seats.items z c.index_mut-seat.result.now) c.from.ensures in
    let was = late_is c.args.self.now.name c.args.seat.deaths (take i c.args.ended.now) c.args.self.now.desks x.0.shard c.loop-entry.seats.items c.index_mut-seat.result.now good.0.0 c.loop-entry.invariant at in
    ap (λ (z : ℕ). set c.loop-entry.seats.items z c.tell_late.new.seat) c.from.ensures
    ∙ late_told c.args.self.now.name c.args.seat.deaths (take i c.args.ended.now) x c.args.self.now.desks c.loop-entry.seats.items c.index_mut-seat.result.now c.tell_late.new.seat good.0.0 c.loop-entry.invariant was c.tell_late.ensures
    ∙ ap (λ (l : List (Pid × ℕ)). map (late_seat c.args.self.now.name c.args.seat.deaths l) (up_from 0 c.args.self.now.desks)) (sym (take_more c.args.ended.now i (record { shard = 0; slot = 0; version = 0 }, 0) c.loop-entry-test.true))
