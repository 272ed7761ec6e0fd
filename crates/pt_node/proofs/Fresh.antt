-- The desks of a new node.
use Rattle.std.proofs.Common.{◌≡◌, ℕ, zero, suc, ◌<◌, List, [], length, map, get_or, refl, sym, ap, ◌∙◌, subst, arith}
use Rattle.std.specs.Prelude.{replicate}
use Rattle.std.proofs.lemmas.List.{get_or-map, get_or_default, length-map}
use Rattle.std.proofs.lemmas.Simd.{map-map}
use Rattle.pt_signal.specs.declared.letter.Letter.{Letter}
use Rattle.pt_carrier.specs.Ends.{Place, OutEnds, InEnds}
use Rattle.pt_carrier.specs.Node.{places, IsNode, IsNew}
use Rattle.pt_carrier.proofs.Meeting.{can_meet}
use Rattle.pt_signal.specs.declared.config.Config.{Config}
use Rattle.pt_shard.specs.ShardState.{ShardState}
use Rattle.pt_signal.specs.Settings.{IsInRange}
use Rattle.pt_shard.specs.Opening.{fresh_shard}
use Rattle.pt_beginning.specs.Beginning.{start_of}
use Rattle.pt_gathered.specs.Pasts.{IsBeginningOf}
use Rattle.pt_gathered.proofs.Starts.{all_empty}
use Rattle.pt_gathered.proofs.Pasts.{from_first}
use Rattle.pt_directory.specs.Seats.{reopened_seat}
use Rattle.pt_desk.specs.DeskState.{DeskState, IsAccounted}
use Rattle.pt_workers.specs.Desks.{AreAccounted, AreDesksOf, all_ends, all_shards}
use Rattle.pt_node.specs.Opening.{AreFreshShards, AreFresh}
use Rattle.pt_node.specs.Seating.{Seated, seat_in, all_seats, AreFreshSeats}
use Rattle.pt_node.proofs.SeatsOf.{fresh_seat}
use Rattle.pt_node.proofs.Wholes.{accounted_each}

empty_box : (n e : ℕ) → get_or (replicate {A = List Letter} n []) e [] ≡ []
empty_box zero zero = refl
empty_box zero (suc e) = refl
empty_box (suc n) zero = refl
empty_box (suc n) (suc e) = empty_box n e

module _ (config : Config) (shards : List ShardState) (pairs : List (OutEnds × InEnds)) (are : AreFreshShards config shards) (count : length pairs ≡ config.desks)
    (node : IsNode (map places pairs)) (new : (d : ℕ) (p : OutEnds × InEnds) → d < config.desks → IsNew config.desks config.lane (get_or pairs d p)) where
  pub fresh_accounted : AreAccounted shards pairs
  fresh_accounted = accounted_each shards pairs (are.count ∙ sym count) each
    where
      each : (k : ℕ) (s : ShardState) (p : OutEnds × InEnds) → k < length shards → IsAccounted (get_or shards k s) (get_or pairs k p).0 (get_or pairs k p).1
      each k s p h =
          let in_pairs : k < length pairs = omega (arith, h, are.count, count) in
          let in_desks : k < config.desks = omega (arith, h, are.count) in
          let in_node : k < length (map places pairs) = omega (arith, in_pairs, length-map pairs places) in
          let at : get_or (map places pairs) k (places p) ≡ places (get_or pairs k p) = get_or-map places pairs k p (places p) in_pairs in
          let numbers = node.numbers k (places p) in_node in
          let rings = node.lanes k (places p) in_node in
          let fresh_ends = new k p in_desks in
          let here = get_or pairs k p in
          let still : here ≡ get_or pairs k here = get_or_default pairs k p here in_pairs in
          let all : length (map places pairs) ≡ config.desks = length-map pairs places ∙ count in
          subst (λ z. IsAccounted z (get_or pairs k p).0 (get_or pairs k p).1) (sym (are.fresh_each k s h)) (record {
            out_number = ap (λ (z : Place × Place). z.0.number) (sym at) ∙ numbers.0;
            in_number = ap (λ (z : Place × Place). z.1.number) (sym at) ∙ numbers.1;
            out_desks = ap (λ (z : Place × Place). length z.0.rings) (sym at) ∙ rings.0 ∙ all;
            in_desks = ap (λ (z : Place × Place). length z.1.rings) (sym at) ∙ rings.1 ∙ all;
            posted_desks = fresh_ends.posted_desks;
            collected_desks = fresh_ends.collected_desks;
            posted = λ e l. rw (fresh_ends.posted e, empty_box config.desks e) refl;
            collected = λ d l. fresh_ends.collected d;
            own = can_meet pairs node k k here here in_pairs in_pairs still still;
          })

  module _ (range : IsInRange config) (desks : List DeskState) (ends_are : all_ends desks ≡ pairs) (shards_are : all_shards desks ≡ shards)
      (seats : List Seated) (looked : AreFreshSeats config [] seats) (seats_are : all_seats desks ≡ seats) where
    desk_count : length desks ≡ config.desks
    desk_count = sym (length-map desks (λ (d : DeskState). d.shard)) ∙ ap length shards_are ∙ are.count

    shard_is : (d : ℕ) (x : DeskState) → d < length desks → (get_or desks d x).shard ≡ fresh_shard config d
    shard_is d x h =
        sym (get_or-map (λ (d : DeskState). d.shard) desks d x x.shard h) ∙ ap (λ z. get_or z d x.shard) shards_are ∙ are.fresh_each d x.shard (omega (arith, h, desk_count, are.count))

    seat_is : (d : ℕ) (x : DeskState) → d < length desks → seat_in (get_or desks d x) ≡ (looked.directory, reopened_seat looked.directory.name [] d)
    seat_is d x h = sym (get_or-map seat_in desks d x (seat_in x) h) ∙ ap (λ z. get_or z d (seat_in x)) seats_are ∙ fresh_seat config [] seats looked d (seat_in x) (omega (arith, h, desk_count))

    nobody : start_of (all_shards desks) ≡ []
    nobody = ap start_of shards_are ∙ all_empty shards (λ d x h. ap (λ (s : ShardState). s.start) (are.fresh_each d x h))

    from_opening : IsBeginningOf [] config.start (start_of (all_shards desks))
    from_opening = subst (IsBeginningOf [] config.start) (sym nobody) (from_first config.start)

    fresh_node : AreDesksOf config desks
    fresh_node = record {
      some = omega (arith, desk_count, range.some_desks);
      count = desk_count;
      node = subst IsNode (sym (sym (map-map places (λ (d : DeskState). (d.outs, d.ins)) desks) ∙ ap (map places) ends_are)) node;
      configs = λ d x h. ap (λ (s : ShardState). s.config) (shard_is d x h);
      directory = looked.directory;
      directories = λ d x h. ap (λ (p : Seated). p.0) (seat_is d x h);
      begun = from_opening.begun;
    }

    pub fresh_desks : AreFresh config desks
    fresh_desks = record {
      node = fresh_node;
      shards = shard_is;
      ends = λ d x h.
          subst (IsNew config.desks config.lane) (sym (ap (λ z. get_or z d (x.outs, x.ins)) ends_are) ∙ get_or-map (λ (d : DeskState). (d.outs, d.ins)) desks d x (x.outs, x.ins) h)
          (new d (x.outs, x.ins) (omega (arith, h, desk_count)));
      unread = λ d x h. ap (λ (p : Seated). p.1.reads) (seat_is d x h);
      first = record { config = config; node = fresh_node; begun = from_opening };
    }
