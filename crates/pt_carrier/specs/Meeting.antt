-- The two ends of a lane look at each other.
use Rattle.std.specs.Prelude.{◌≡◌, ◌≢◌, ℕ, ◌<◌, ◌≤◌, List, [], ◌++◌, length, slice_index_or}
use Rattle.pt_signal.specs.declared.letter.Letter.{Letter}
use Rattle.pt_carrier.specs.Lanes.{Ring}
use Rattle.pt_carrier.specs.Ends.{Place, OutEnds, InEnds}

-- what a look at the lanes leaves of one desk's ends
abbrev pub out_kept : OutEnds → Place × List (List Letter) × List ℕ
out_kept o = (o.place, o.posted, o.capacity)

abbrev pub in_kept : InEnds → Place × ℕ × List (List Letter)
in_kept i = (i.place, i.cursor, i.collected)

-- there is a lane from the one's desk to the other's
pub record Meets (o : OutEnds) (i : InEnds) : Type 0 where
  pub has_out : i.place.number < length o.place.rings
  pub has_into : o.place.number < length i.place.rings
  pub ring : (r : Ring) → slice_index_or o.place.rings i.place.number r ≡ slice_index_or i.place.rings o.place.number r

-- all that was posted in that lane was collected or is known to wait
abbrev pub LaneIsWhole : OutEnds → InEnds → Type 0
LaneIsWhole o i =
    slice_index_or o.posted i.place.number []
    ≡ slice_index_or i.collected o.place.number [] ++ slice_index_or i.known o.place.number []

-- each end knows all of the lane between them, which has a place at least; no other lane was looked at
pub record HaveMet (o : OutEnds) (i : InEnds) (o' : OutEnds) (i' : InEnds) : Type 0 where
  pub outs : out_kept o' ≡ out_kept o
  pub ins : in_kept i' ≡ in_kept i
  pub known : (k : ℕ) → k ≢ o.place.number → slice_index_or i'.known k [] ≡ slice_index_or i.known k []
  pub seen : (k : ℕ) → k ≢ i.place.number → slice_index_or o'.seen k 0 ≡ slice_index_or o.seen k 0
  pub whole : LaneIsWhole o' i'
  pub collected : length (slice_index_or i'.collected o.place.number []) ≤ slice_index_or o'.seen i.place.number 0
  pub places : 0 < slice_index_or o'.capacity i.place.number 0
