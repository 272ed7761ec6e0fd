-- `fresh_seats`: its loop over `seat`.
use Rattle.std.proofs.Common.{◌≡◌, ◌++◌, length, map, reverse, ap, ◌∙◌, arith}
use Rattle.std.proofs.lemmas.List.{reverse-reverse}
use Rattle.std.specs.Arc.{arc_value}
use Rattle.pt_directory.specs.Seats.{reopened_seat}
use Rattle.pt_node.specs.Seating.{Seated}
use Rattle.pt_node.proofs.SeatsOf.{count_from, beside_directory}
use Rattle.pt_node.proofs.seating.fresh_seats.Goals as goal

pub loop-seat-init : goal.loop-seat-init
loop-seat-init c =
    let directory = c.in_ok-directory.directory in
    let shape = c.in_ok-directory.ensures.shape in
    let same = c.in_ok-directory-2.ensures.ok in
    let back : reverse c.reverse.new.self.items ≡ c.in_ok-directory.seats.items = ap reverse c.reverse.ensures.items ∙ reverse-reverse c.in_ok-directory.seats.items in
    let count : length c.in_ok-directory.seats.items ≡ c.args.config.desks = ap length c.in_ok-directory.ensures.seats ∙ count_from (reopened_seat directory.name c.args.ended.now) 0 c.args.config.desks in record {
      shape = (ap (λ d. d.desks) same ∙ shape.0, ap (λ d. d.slots) same ∙ shape.1);
      all = ap (λ z. ◌++◌ {A = Seated} (map (λ p. (arc_value p.0, p.1)) z) (map (λ s. (arc_value c.in_ok-directory-2.directory, s)) (reverse c.reverse.new.self.items))) c.in_ok-seated.ensures.items
          ∙ ap (map (λ s. (arc_value c.in_ok-directory-2.directory, s))) back
          ∙ beside_directory c.args.ended.now (arc_value c.in_ok-directory-2.directory) directory c.in_ok-directory.seats.items c.args.config.desks same c.in_ok-directory.ensures.seats;
      room = omega (arith, count, c.in_ok-seated.ensures.len, c.in_ok-seated.ensures.exact, c.from.ensures, c.in_ok-directory.seats.ok.0);
    }
