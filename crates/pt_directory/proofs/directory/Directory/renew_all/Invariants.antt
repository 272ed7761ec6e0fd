-- `Directory::renew_all`: what holds in its loop over `desk`.
use Rattle.std.proofs.Common.{◌≡◌, ℕ, ◌-◌, ◌≤◌, [], map, filter}
use Rattle.std.specs.Vec.{vec_capacity}
use Rattle.pt_directory.specs.Views.{is_of, up_from}
use Rattle.pt_directory.specs.Seats.{late_seat}
use Rattle.pt_directory.proofs.directory.Directory.renew_all.Given as goal

abbrev pub invariant-loop-desk : goal.invariant-loop-desk
invariant-loop-desk l = record {
  made : l.seats.items ≡ map (late_seat l.self.name l.fn.seat.deaths []) (up_from 0 l._desk);
  same : l.rest.name ≡ l.self.name;
  left : l.rest.homes ≡ up_from l._desk (l.self.desks - l._desk);
  kept : (k : ℕ) → l._desk ≤ k → filter (is_of k) l.rest.deaths ≡ filter (is_of k) l.fn.seat.deaths;
  room : l.self.desks ≤ vec_capacity l.seats;
}
