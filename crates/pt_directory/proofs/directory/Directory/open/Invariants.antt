-- `Directory::open`: what holds in its loop over `desk`.
use Rattle.std.proofs.Common.{◌≡◌, ◌-◌, ◌≤◌, map, vec_capacity}
use Rattle.pt_directory.specs.Views.{fresh_view, up_from}
use Rattle.pt_directory.specs.Seats.{new_seat}
use Rattle.pt_directory.proofs.directory.Directory.open.Given as goal

abbrev pub invariant-loop-desk : goal.invariant-loop-desk
invariant-loop-desk l = record {
  made : l.seats.items ≡ map (new_seat l.table.shared.table_id) (up_from 0 l._desk);
  same : l.rest.table_id ≡ l.table.shared.table_id;
  left : l.rest.me.0 ≡ fresh_view (up_from l._desk (l.desks - l._desk));
  room : l.desks ≤ vec_capacity l.seats;
}
