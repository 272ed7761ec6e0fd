-- `make_whole`: its loop over `outs`.
use Rattle.std.proofs.Common.{◌≡◌, ◌++◌, ◌∙◌, List, length, map, reverse, ap, sym, subst, arith}
use Rattle.std.specs.Arc.{arc_value}
use Rattle.std.proofs.lemmas.List.{length-map, reverse-reverse}
use Rattle.pt_workers.specs.Desks.{AreAccounted, all_ends, all_shards}
use Rattle.pt_node.specs.Seating.{AreSeated, Seated, all_seats, all_tables}
use Rattle.pt_node.proofs.Wholes.{accounted_count}
use Rattle.pt_node.proofs.SeatsOf.{seated_count}
use Rattle.pt_node.proofs.making.make_whole.Goals as goal

pub loop-outs-init : goal.loop-outs-init
loop-outs-init c =
    let none = c.requires.desks.0 in
    let shards = c.args.shards.items in
    let seats : List Seated = map (λ p. (arc_value p.0, p.1)) c.args.seats.items in
    let accounts = accounted_count shards c.args.pairs.items c.requires.accounted in
    let sits = seated_count shards seats c.args.tables.items c.requires.seated in
    let same : length seats ≡ length c.args.seats.items = length-map c.args.seats.items (λ p. (arc_value p.0, p.1)) in
    let empty : length c.args.desks.now.items ≡ 0 = ap length none in
    let pairs_back : reverse c.reverse.new.self.items ≡ c.args.pairs.items = ap reverse c.reverse.ensures.items ∙ reverse-reverse c.args.pairs.items in
    let shards_back : reverse c.reverse-2.new.self.items ≡ shards = ap reverse c.reverse-2.ensures.items ∙ reverse-reverse shards in
    let seats_back : reverse c.reverse-3.new.self.items ≡ c.args.seats.items = ap reverse c.reverse-3.ensures.items ∙ reverse-reverse c.args.seats.items in
    let tables_back : reverse c.reverse-4.new.self.items ≡ c.args.tables.items = ap reverse c.reverse-4.ensures.items ∙ reverse-reverse c.args.tables.items in record {
      pairs = ap (λ z. all_ends z ++ reverse c.reverse.new.self.items) none ∙ pairs_back;
      shards = ap (λ z. all_shards z ++ reverse c.reverse-2.new.self.items) none ∙ shards_back;
      seats = ap (λ z. all_seats z ++ map (λ p. (arc_value p.0, p.1)) (reverse c.reverse-3.new.self.items)) none ∙ ap (map (λ p. (arc_value p.0, p.1))) seats_back;
      tables = ap (λ z. all_tables z ++ reverse c.reverse-4.new.self.items) none ∙ tables_back;
      seated = subst (λ z. AreSeated z (map (λ p. (arc_value p.0, p.1)) (reverse c.reverse-3.new.self.items)) (reverse c.reverse-4.new.self.items)) (sym shards_back)
          (subst (λ z. AreSeated shards (map (λ p. (arc_value p.0, p.1)) z) (reverse c.reverse-4.new.self.items)) (sym seats_back)
          (subst (AreSeated shards seats) (sym tables_back) c.requires.seated));
      as_many = (
        omega (arith, accounts, c.args.shards.ok.0, c.args.pairs.ok.0),
        omega (arith, accounts, sits.0, same, c.args.seats.ok.0, c.args.pairs.ok.0),
        omega (arith, accounts, sits.1, c.args.tables.ok.0, c.args.pairs.ok.0),
      );
      accounted = subst (λ z. AreAccounted z (reverse c.reverse.new.self.items)) (sym shards_back) (subst (AreAccounted shards) (sym pairs_back) c.requires.accounted);
      room = omega (arith, c.requires.desks.1, empty, c.args.desks.now.ok.0);
    }
