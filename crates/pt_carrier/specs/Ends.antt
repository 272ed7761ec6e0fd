-- All ends of one desk. Each list has an entry for each desk of the node, in order.
use Rattle.std.specs.Prelude.{◌≡◌, ℕ, ◌+◌, ◌%◌, ◌<◌, ◌≤◌, List, [], ◌∷◌, ◌++◌, length, map, slice_index_or, slice_set}
use mathlib.Core.List.{IsPrefix}
use Rattle.pt_signal.specs.declared.letter.Letter.{Letter}
use Rattle.pt_signal.specs.Boxes.{one_more}
use Rattle.pt_carrier.specs.Lanes.{Ring, Sending, Receiving}

-- where a desk's sending or receiving ends stand: the desk's number, and the ring of the lane to or from
-- each desk. No call changes it
pub record Place : Type 0 where
  pub number : ℕ
  pub rings : List Ring

-- the ends that send: what was posted to each desk, the capacity of the lane, and how many of the
-- letters posted there are known to be collected
pub record OutEnds : Type 0 where
  pub place : Place
  pub posted : List (List Letter)
  pub capacity : List ℕ
  pub seen : List ℕ

-- the ends that receive: from which desk's lane the next look begins, what was collected from each
-- desk, and the letters from it that are known to wait, oldest first
pub record InEnds : Type 0 where
  pub place : Place
  pub cursor : ℕ
  pub collected : List (List Letter)
  pub known : List (List Letter)

abbrev pub out_ends : ℕ → List Sending → OutEnds
out_ends number lanes = record {
  place = record { number = number; rings = map (λ (s : Sending). s.ring) lanes };
  posted = map (λ (s : Sending). s.posted) lanes;
  capacity = map (λ (s : Sending). s.capacity) lanes;
  seen = map (λ (s : Sending). s.seen) lanes;
}

abbrev pub in_ends : ℕ → ℕ → List Receiving → InEnds
in_ends number cursor lanes = record {
  place = record { number = number; rings = map (λ (s : Receiving). s.ring) lanes };
  cursor = cursor;
  collected = map (λ (s : Receiving). s.collected) lanes;
  known = map (λ (s : Receiving). s.known) lanes;
}

-- the next look begins at the lane from desk k
abbrev pub looking_from : ℕ → InEnds → InEnds
looking_from k ends = record ends { cursor = k }

-- the lanes go out from one desk, in order of desk
abbrev pub GoOutFrom : ℕ → List Sending → Type 0
GoOutFrom number lanes =
    (k : ℕ) (d : Sending) → k < length lanes
    → ((slice_index_or lanes k d).from ≡ number) × ((slice_index_or lanes k d).to ≡ k)

-- the lanes come in to one desk, in order of desk
abbrev pub ComeInTo : ℕ → List Receiving → Type 0
ComeInTo number lanes =
    (k : ℕ) (d : Receiving) → k < length lanes
    → ((slice_index_or lanes k d).from ≡ k) × ((slice_index_or lanes k d).to ≡ number)

-- the list for desk k gets more letters at its end
abbrev pub more_of : List (List Letter) → ℕ → List Letter → List (List Letter)
more_of lists k letters = slice_set lists k (slice_index_or lists k [] ++ letters)

-- the letters posted to desk k less those known to be collected number the capacity of the lane
abbrev pub IsFull : OutEnds → ℕ → Type 0
IsFull o k = length (slice_index_or o.posted k []) ≡ slice_index_or o.capacity k 0 + slice_index_or o.seen k 0

-- they number less: the lane has a place that this end knows of
abbrev pub HasPlace : OutEnds → ℕ → Type 0
HasPlace o k = length (slice_index_or o.posted k []) < slice_index_or o.capacity k 0 + slice_index_or o.seen k 0

-- they leave so many places or more: the lane has as many that this end knows of
abbrev pub HasPlaces : OutEnds → ℕ → ℕ → Type 0
HasPlaces o k count =
    length (slice_index_or o.posted k []) + count ≤ slice_index_or o.capacity k 0 + slice_index_or o.seen k 0

-- the lane to desk k may have been looked at, and no other
pub record LooksAt (old new : OutEnds) (k : ℕ) : Type 0 where
  pub more : slice_index_or old.seen k 0 ≤ slice_index_or new.seen k 0
  pub others : new.seen ≡ slice_set old.seen k (slice_index_or new.seen k 0)

-- one letter is collected from desk k, and the next look begins at the desk after it
pub record Collects (old new : InEnds) (k : ℕ) (letter : Letter) : Type 0 where
  pub from_desk : k < length old.place.rings
  pub collected : new.collected ≡ one_more old.collected k letter
  pub cursor : new.cursor ≡ (k + 1) % length old.place.rings
  pub from_there : letter.from.shard ≡ k
  pub to_here : letter.to.shard ≡ old.place.number
  -- it is the oldest that was known to wait in that lane, if any was
  pub oldest : IsPrefix (slice_index_or old.known k []) (letter ∷ slice_index_or new.known k [])

-- desk k's lane shows a letter, behind those that were known to wait there
abbrev pub Shows : InEnds → InEnds → ℕ → Type 0
Shows old new k =
    (k < length old.place.rings) × (0 < length (slice_index_or new.known k []))
    × IsPrefix (slice_index_or old.known k []) (slice_index_or new.known k [])

-- no letter shows in the lanes from desk `low` up to below desk `high`: none was known before, and none is now
abbrev pub ShowNone : InEnds → InEnds → ℕ → ℕ → Type 0
ShowNone old new low high =
    (k : ℕ) → low ≤ k → k < high → (slice_index_or old.known k [] ≡ []) × (slice_index_or new.known k [] ≡ [])

-- from the cursor upwards and round, no lane before that of desk k shows a letter
pub record IsFirstFromCursor (old new : InEnds) (k : ℕ) : Type 0 where
  pub above : old.cursor ≤ k → ShowNone old new old.cursor k
  pub around : k < old.cursor → ShowNone old new old.cursor (length old.place.rings) × ShowNone old new 0 k

-- the letter is the oldest that is known to wait in the lane from desk k, and names the two desks of that lane
pub record IsFront (ends : InEnds) (k : ℕ) (letter : Letter) : Type 0 where
  pub oldest : IsPrefix (letter ∷ []) (slice_index_or ends.known k [])
  pub from_there : letter.from.shard ≡ k
  pub to_here : letter.to.shard ≡ ends.place.number
