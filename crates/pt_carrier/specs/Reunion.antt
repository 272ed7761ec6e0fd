-- The ends of a node while they are brought together. No public clause cites this module.
use Rattle.std.specs.Prelude.{◌≡◌, ◌≢◌, ◌⊎◌, ℕ, ◌<◌, ◌≤◌, List, [], ◌++◌, length, map, slice_index_or, Vec}
use Rattle.std.specs.Vec.{vec_capacity}
use Rattle.pt_signal.specs.declared.letter.Letter.{Letter}
use Rattle.pt_carrier.specs.Ends.{OutEnds, InEnds}
use Rattle.pt_carrier.specs.Node.{kept, all_posted, all_collected, entry}

-- what is known to wait at each desk from each desk
abbrev pub all_known : List (OutEnds × InEnds) → List (List (List Letter))
all_known pairs = map (λ (p : OutEnds × InEnds). p.1.known) pairs

-- all that was posted from desk d to desk e was collected or is known to wait
abbrev pub WholeAt : List (OutEnds × InEnds) → ℕ → ℕ → Type 0
WholeAt pairs d e = entry (all_posted pairs) d e ≡ entry (all_collected pairs) e d ++ entry (all_known pairs) e d

-- the two ends of the lane from desk d to desk e have met, and no other end was changed
pub record MeetAt (old new : List (OutEnds × InEnds)) (d e : ℕ) : Type 0 where
  pub kept : map kept new ≡ map kept old
  pub others : (i k : ℕ) → (i ≢ e) ⊎ (k ≢ d) → entry (all_known new) i k ≡ entry (all_known old) i k
  pub whole : WholeAt new d e

-- the list of a vector, and the vector's capacity
abbrev pub room_of : {A : Type 0} → Vec Letter A → List Letter × ℕ
room_of v = (v.items, vec_capacity v)

abbrev pub room_at : {A : Type 0} → List (Vec Letter A) → ℕ → List Letter × ℕ
room_at vs k = slice_index_or (map room_of vs) k ([], 0)

-- the vector at k is empty and has room for these letters
pub record VectorHasRoom {A : Type 0} (known : List Letter) (vs : List (Vec Letter A)) (k : ℕ) : Type 0 where
  pub within : k < length vs
  pub empty : (room_at vs k).0 ≡ []
  pub room : length known ≤ (room_at vs k).1
