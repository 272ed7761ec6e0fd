-- `Directory::renew_all`: its loop over `desk`, and what its call of `push_reserved` asks.
use Rattle.std.proofs.Common.{◌<◌, [], ap, arith, le_refl}
use Rattle.pt_directory.specs.Seats.{DirectoryState, late_seat}
use Rattle.pt_directory.proofs.Reopening.{count_seats}
use Rattle.pt_directory.proofs.Late.{renewed_push, renewed_rest}
use Rattle.pt_directory.proofs.directory.Directory.renew_all.Goals as goal

pub push_reserved-requires : goal.push_reserved-requires
push_reserved-requires c =
    let count = count_seats c.loop-desk.seats.items (late_seat c.args.self.now.name c.args.seat.deaths []) c.loop-desk._desk c.loop-desk.invariant.made in
    let desks = ap (λ (d : DirectoryState). d.desks) c.self.view_is in
    omega (arith, c.loop-desk.invariant.room, c.loop-desk-test.true, c.loop-desk.seats.ok.0, count, desks)

pub loop-desk-preserved : goal.loop-desk-preserved
loop-desk-preserved c =
    let inv = c.loop-desk.invariant in
    let k = c.loop-desk._desk in
    let n = c.args.self.now.desks in
    let name = c.args.self.now.name in
    let deaths = c.args.seat.deaths in
    let desks = ap (λ (d : DirectoryState). d.desks) c.self.view_is in
    let low : k < n = omega (arith, c.loop-desk-test.true, desks) in
    let rest = renewed_rest c.loop-desk.rest c.renew.new.seat name deaths k n low inv.same inv.left c.renew.ensures.rest inv.kept in record {
      made = renewed_push c.loop-desk.seats.items c.push_reserved.new.self.items c.renew.result c.loop-desk.rest name deaths k n low inv.made inv.same inv.left (inv.kept k (le_refl k)) c.renew.ensures.first c.push_reserved.ensures.items;
      same = rest.0;
      left = rest.1;
      kept = rest.2;
      room = omega (arith, inv.room, c.push_reserved.ensures.capacity);
    }
