-- What went by the ring of a lane, and what the two halves of it own.
use Rattle.std.specs.Prelude.{◌≡◌, ◌≢◌, ℕ, ◌+◌, ◌≤◌, List, [], ◌++◌, length, drop, slice_index_or}
use base.Stored.{Coded, coded×, coded_list, coded_ℕ}
use base.Fml.{GName, Fml, fobs, fauth}
use Rattle.pt_signal.specs.declared.letter.Letter.{Letter}
use Rattle.pt_signal.specs.contracts.letter.Letter.{the_row}
use Rattle.pt_carrier.specs.Ends.{OutEnds, InEnds, more_of}

-- the letters, and how many of them went through the ring, as one ghost value
abbrev pub log_coded : Coded (List Letter × ℕ)
log_coded = coded× (coded_list (the_row).coded) coded_ℕ

-- the halves change together, and agree
abbrev pub out_owns : GName → List Letter → ℕ → Fml
out_owns γ log count = fauth γ (log_coded.code (log, count))

abbrev pub in_owns : GName → List Letter → ℕ → Fml
in_owns γ log count = fobs γ (log_coded.code (log, count))

-- what went over the lane: the letters of the log, then those that the ring had after these
abbrev pub through : List Letter → ℕ → List Letter → List Letter
through log count ring = log ++ drop count ring

-- as many letters were collected from the desk itself as were posted to it
abbrev pub IsEven : OutEnds → InEnds → Type 0
IsEven o i = length (slice_index_or o.posted i.place.number []) ≡ length (slice_index_or i.collected i.place.number [])

-- letters went by the lane of a desk to itself, in which nothing was: they are posted, and collected, and both ends know
pub record GoesBy (letters : List Letter) (o : OutEnds) (i : InEnds) (o' : OutEnds) (i' : InEnds) : Type 0 where
  pub none : slice_index_or i.known i.place.number [] ≡ []
  pub place : o'.place ≡ o.place
  pub capacity : o'.capacity ≡ o.capacity
  pub posted : o'.posted ≡ more_of o.posted i.place.number letters
  pub seen : slice_index_or o.seen i.place.number 0 + length letters ≤ slice_index_or o'.seen i.place.number 0
  pub others : (k : ℕ) → k ≢ i.place.number → slice_index_or o'.seen k 0 ≡ slice_index_or o.seen k 0
  pub into : i' ≡ record i { collected = more_of i.collected i.place.number letters }
