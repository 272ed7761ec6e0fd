-- `Directory::open`: its loop over `desk`, and what its calls of `split_seat` and `push_reserved` ask.
use Rattle.std.proofs.Common.{◌≡◌, ◌+◌, ◌-◌, ◌*◌, ◌<◌, ◌∷◌, ap, ◌∙◌, arith, mul-pos}
use Rattle.pt_directory.specs.Views.{fresh_view, up_from}
use Rattle.pt_directory.specs.Rule.{one_home, other_homes}
use Rattle.pt_directory.specs.Seats.{seat_state, new_seat}
use Rattle.pt_directory.proofs.Lists.{up_from-cons}
use Rattle.pt_directory.proofs.Words.{made_push}
use Rattle.pt_directory.proofs.SeatSteps.{splits}
use Rattle.pt_directory.proofs.Reopening.{count_seats}
use Rattle.pt_directory.proofs.directory.Directory.open.Goals as goal

pub split_seat-inner-requires : goal.split_seat-inner-requires
split_seat-inner-requires c =
    let t = c.in_ok-table.ensures in
    let pos : 0 < c.args.desks * c.args.slots = mul-pos c.requires.desks c.requires.slots in (
      c.loop-desk.invariant.same,
      omega (arith, t.words),
      splits c.in_ok-table.table.shared.key c.loop-desk.rest.id c.loop-desk._desk (up_from (c.loop-desk._desk + 1) (c.args.desks - (c.loop-desk._desk + 1))) c.loop-desk.rest.me.0
          (c.loop-desk.invariant.left ∙ ap fresh_view (up_from-cons c.loop-desk._desk c.args.desks c.loop-desk-test.true)),
    )

pub push_reserved-requires : goal.push_reserved-requires
push_reserved-requires c =
    let count = count_seats c.loop-desk.seats.items (new_seat c.in_ok-table.table.shared.table_id) c.loop-desk._desk c.loop-desk.invariant.made in
    omega (arith, c.loop-desk.invariant.room, c.loop-desk-test.true, c.loop-desk.seats.ok.0)

pub loop-desk-preserved : goal.loop-desk-preserved
loop-desk-preserved c =
    let k = c.loop-desk._desk in
    let hs = up_from (k + 1) (c.args.desks - (k + 1)) in
    let was : c.loop-desk.rest.me.0 ≡ fresh_view (k ∷ hs) = c.loop-desk.invariant.left ∙ ap fresh_view (up_from-cons k c.args.desks c.loop-desk-test.true) in
    let s = c.split_seat-inner.ensures in
    let name = c.in_ok-table.table.shared.table_id in
    let new : seat_state c.split_seat-inner.result.table_id c.split_seat-inner.result.me.0 ≡ new_seat name k =
    (let a = s.3 ∙ c.loop-desk.invariant.same in
    let b = ap (λ m. m.0) s.4 ∙ ap one_home was in λ i. seat_state (a i) (b i)) in record {
      made = made_push c.loop-desk.seats.items c.push_reserved.new.self.items _ name k c.loop-desk.invariant.made new c.push_reserved.ensures.items;
      same = s.0 ∙ c.loop-desk.invariant.same;
      left = ap (λ m. m.0) s.2 ∙ ap other_homes was;
      room = omega (arith, c.loop-desk.invariant.room, c.push_reserved.ensures.capacity);
    }
