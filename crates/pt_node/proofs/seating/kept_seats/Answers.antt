-- `kept_seats`: its loop over `seat`.
use Rattle.std.proofs.Common.{◌≡◌, ◌++◌, length, map, reverse, sym, ap, ◌∙◌, arith}
use Rattle.std.proofs.lemmas.List.{reverse-reverse}
use Rattle.std.specs.Arc.{arc_value}
use Rattle.pt_directory.specs.Views.{up_from}
use Rattle.pt_directory.specs.Seats.{late_seat}
use Rattle.pt_node.specs.Seating.{Seated}
use Rattle.pt_node.proofs.SeatsOf.{count_from, late_beside}
use Rattle.pt_node.proofs.seating.kept_seats.Goals as goal

pub loop-seat-init : goal.loop-seat-init
loop-seat-init c =
    let k = c.args.kept in
    let same = c.into_parts-directory.ensures.directory in
    let seat = c.into_parts-directory.ensures.seat in
    let f = late_seat k.directory.name k.seat.deaths c.args.ended.now in
    let made : c.in_ok-seats.seats.items ≡ map f (up_from 0 c.args.desks)
    = c.in_ok-seats.ensures ∙ (λ i. map (late_seat ((c.deref.ensures ∙ same) i).name (seat i).deaths c.args.ended.now) (up_from 0 ((c.deref.ensures ∙ same) i).desks)) ∙ ap (λ n. map f (up_from 0 n)) (sym c.requires.desks) in
    let back : reverse c.reverse.new.self.items ≡ c.in_ok-seats.seats.items = ap reverse c.reverse.ensures.items ∙ reverse-reverse c.in_ok-seats.seats.items in
    let count : length c.in_ok-seats.seats.items ≡ c.args.desks = ap length made ∙ count_from f 0 c.args.desks in record {
      same = same;
      all = ap (λ z. ◌++◌ {A = Seated} (map (λ p. (arc_value p.0, p.1)) z) (map (λ s. (k.directory, s)) (reverse c.reverse.new.self.items))) c.in_ok-seated.ensures.items
          ∙ ap (map (λ s. (k.directory, s))) back
          ∙ late_beside k.directory f c.in_ok-seats.seats.items c.args.desks made;
      room = omega (arith, count, c.in_ok-seated.ensures.len, c.in_ok-seated.ensures.exact, c.from.ensures, c.in_ok-seats.seats.ok.0);
    }
