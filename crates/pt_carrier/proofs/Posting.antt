-- One lane out of a desk, among all of them.
use Rattle.std.proofs.Common.{◌≡◌, ℕ, ◌+◌, ◌<◌, List, [], ◌∷◌, ◌++◌, map, length, take, get_or, set, sym, refl, ap, ◌∙◌, arith}
use Rattle.std.proofs.Math.Seq.{take-append_seam}
use Rattle.std.proofs.lemmas.List.{length-map}
use Rattle.std.proofs.lemmas.List.Elements.{All-head, All-tail, All-take}
use Rattle.pt_signal.specs.declared.letter.Letter.{Letter}
use Rattle.pt_carrier.specs.Lanes.{Sending, AllGo, on_lane}
use Rattle.pt_carrier.specs.Ends.{OutEnds, out_ends, IsFull, HasPlace}
use Rattle.pt_signal.proofs.Lists.{get_or-map_set_same}

-- there is a lane to each desk that has a ring
pub lane_in : (number : ℕ) (lanes : List Sending) (o : OutEnds) (i to : ℕ) → out_ends number lanes ≡ o → to < length o.place.rings → i ≡ to → i < length lanes
lane_in number lanes o i to is to_in e =
    omega (arith, length-map lanes (λ (s : Sending). s.ring), ap (λ (o : OutEnds). length o.place.rings) is)

-- what is known of a lane that was looked at
module _ (number : ℕ) (lanes : List Sending) (i : ℕ) (lane : Sending) (i_in : i < length lanes) where
  posted_now : get_or (map (λ (s : Sending). s.posted) (set lanes i lane)) i [] ≡ lane.posted
  posted_now = get_or-map_set_same (λ (s : Sending). s.posted) lanes i lane [] i_in

  capacity_now : get_or (map (λ (s : Sending). s.capacity) (set lanes i lane)) i 0 ≡ lane.capacity
  capacity_now = get_or-map_set_same (λ (s : Sending). s.capacity) lanes i lane 0 i_in

  pub seen_now : get_or (map (λ (s : Sending). s.seen) (set lanes i lane)) i 0 ≡ lane.seen
  seen_now = get_or-map_set_same (λ (s : Sending). s.seen) lanes i lane 0 i_in

  pub full_at : length lane.posted ≡ lane.capacity + lane.seen → IsFull (out_ends number (set lanes i lane)) i
  full_at h = omega (arith, h, ap length posted_now, capacity_now, seen_now)

  pub place_at : length lane.posted < lane.capacity + lane.seen → HasPlace (out_ends number (set lanes i lane)) i
  place_at h = omega (arith, h, ap length posted_now, capacity_now, seen_now)

-- letters that name the desks of their lane are what the lane shows of them
pub all_shown : (from to : ℕ) (letters : List Letter) → AllGo from to letters → map (on_lane from to) letters ≡ letters
all_shown from to [] h = refl
all_shown from to (l ∷ letters) h =
    let P : Letter → Type 0 = λ l. (l.from.shard ≡ from) × (l.to.shard ≡ to) in
    let names = All-head P l letters h in
    let first : on_lane from to l ≡ l = λ i. record l { from = record l.from { shard = sym names.0 i }; to = record l.to { shard = sym names.1 i } } in
    let rest = all_shown from to letters (All-tail P l letters h) in
    λ i. first i ∷ rest i

-- the front of them that went into the lane
pub front_shown : (from to : ℕ) (letters front rest : List Letter) → AllGo from to letters → front ++ rest ≡ letters → map (on_lane from to) front ≡ take (length front) letters
front_shown from to letters front rest h parts =
    let P : Letter → Type 0 = λ l. (l.from.shard ≡ from) × (l.to.shard ≡ to) in
    let is : front ≡ take (length front) letters = sym (take-append_seam front rest) ∙ ap (take (length front)) parts in
    ap (map (on_lane from to)) is ∙ all_shown from to (take (length front) letters) (All-take P (length front) letters h)
