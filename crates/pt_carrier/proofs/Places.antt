-- Lemmas on where the ends of the desks of a node stand, for this crate and those above it.
use Rattle.std.proofs.Common.{◌≡◌, ℕ, ◌<◌, List, map, length, get_or, sym, ◌∙◌, ap, arith}
use Rattle.std.proofs.lemmas.List.{length-map}
use Rattle.pt_carrier.specs.Ends.{Place, OutEnds, InEnds}
use Rattle.pt_carrier.specs.Node.{places, IsNode, kept, all_posted, all_collected}
use Rattle.pt_signal.proofs.Lists.{get_or-map_read}
use Rattle.pt_carrier.proofs.Lists.{map-through, length-map_same}

-- the desk `x` that was read at d, of a node whose desks have their ends at these places
module _ {X : Type 0} (ends : X → Place × Place) (desks : List X) (node : IsNode (map ends desks)) (d : ℕ) (x : X) (within : d < length desks) (is : x ≡ get_or desks d x) where
  place_read : (y : Place × Place) → get_or (map ends desks) d y ≡ ends x
  place_read y = get_or-map_read ends desks d x y within is

  within_map : d < length (map ends desks)
  within_map = omega (arith, within, length-map desks ends)

  pub out_number : (ends x).0.number ≡ d
  out_number = sym (ap (λ (y : Place × Place). y.0.number) (place_read (ends x))) ∙ (node.numbers d (ends x) within_map).0

  pub in_number : (ends x).1.number ≡ d
  in_number = sym (ap (λ (y : Place × Place). y.1.number) (place_read (ends x))) ∙ (node.numbers d (ends x) within_map).1

  pub out_lanes : length (ends x).0.rings ≡ length desks
  out_lanes = sym (ap (λ (y : Place × Place). length y.0.rings) (place_read (ends x))) ∙ (node.lanes d (ends x) within_map).0 ∙ length-map desks ends

  pub in_lanes : length (ends x).1.rings ≡ length desks
  in_lanes = sym (ap (λ (y : Place × Place). length y.1.rings) (place_read (ends x))) ∙ (node.lanes d (ends x) within_map).1 ∙ length-map desks ends

-- what is kept of the ends tells where they stand, what was posted, for how many letters, and what was collected
module _ (xs ys : List (OutEnds × InEnds)) (same : map kept xs ≡ map kept ys) where
  pub kept_places : map places xs ≡ map places ys
  kept_places = map-through kept (λ k. (k.0.0, k.1.0)) xs ys same

  pub kept_posted : all_posted xs ≡ all_posted ys
  kept_posted = map-through kept (λ k. k.0.1) xs ys same

  pub kept_capacity : map (λ (p : OutEnds × InEnds). p.0.capacity) xs ≡ map (λ (p : OutEnds × InEnds). p.0.capacity) ys
  kept_capacity = map-through kept (λ k. k.0.2) xs ys same

  pub kept_collected : all_collected xs ≡ all_collected ys
  kept_collected = map-through kept (λ k. k.1.2) xs ys same

  pub kept_count : length xs ≡ length ys
  kept_count = length-map_same kept xs ys same
