-- The ends of all desks of a node, in order of desk.
use Rattle.std.specs.Prelude.{◌≡◌, ℕ, ◌+◌, ◌*◌, ◌<◌, List, [], ◌++◌, length, map, slice_index_or, Vec}
use Rattle.pt_signal.specs.declared.letter.Letter.{Letter}
use Rattle.pt_carrier.specs.Lanes.{Ring}
use Rattle.pt_carrier.specs.Ends.{Place, OutEnds, InEnds}

-- where the two halves of a desk's ends stand. A desk's node stays what it was where this is unchanged
abbrev pub places : OutEnds × InEnds → Place × Place
places p = (p.0.place, p.1.place)

-- the places of the desks of one node, each once and in order: what goes out on a ring comes in on it
pub record IsNode (desks : List (Place × Place)) : Type 0 where
  pub numbers : (d : ℕ) (x : Place × Place) → d < length desks
      → ((slice_index_or desks d x).0.number ≡ d) × ((slice_index_or desks d x).1.number ≡ d)
  pub lanes : (d : ℕ) (x : Place × Place) → d < length desks
      → (length (slice_index_or desks d x).0.rings ≡ length desks)
      × (length (slice_index_or desks d x).1.rings ≡ length desks)
  pub paired : (d e : ℕ) (x : Place × Place) (r : Ring) → d < length desks → e < length desks
      → slice_index_or (slice_index_or desks d x).0.rings e r ≡ slice_index_or (slice_index_or desks e x).1.rings d r

-- nothing was posted to any desk, and nothing collected or known of any
pub record IsNew (desks capacity : ℕ) (p : OutEnds × InEnds) : Type 0 where
  pub posted_desks : length p.0.posted ≡ desks
  pub posted : (e : ℕ) → slice_index_or p.0.posted e [] ≡ []
  pub capacities : (e : ℕ) → e < desks → slice_index_or p.0.capacity e 0 ≡ capacity
  pub seen : (e : ℕ) → e < desks → slice_index_or p.0.seen e 0 ≡ 0
  pub cursor : p.1.cursor ≡ 0
  pub collected_desks : length p.1.collected ≡ desks
  pub collected : (d : ℕ) → slice_index_or p.1.collected d [] ≡ []
  pub known : (d : ℕ) → slice_index_or p.1.known d [] ≡ []

-- what was posted by each desk to each desk, and collected by each desk from each desk
abbrev pub all_posted : List (OutEnds × InEnds) → List (List (List Letter))
all_posted pairs = map (λ (p : OutEnds × InEnds). p.0.posted) pairs

abbrev pub all_collected : List (OutEnds × InEnds) → List (List (List Letter))
all_collected pairs = map (λ (p : OutEnds × InEnds). p.1.collected) pairs

abbrev pub entry : List (List (List Letter)) → ℕ → ℕ → List Letter
entry m i j = slice_index_or (slice_index_or m i []) j []

-- what was posted from each desk d to each desk e is what was collected, then the list at d * desks + e
pub record AreLeft (pairs : List (OutEnds × InEnds)) (left : List (List Letter)) : Type 0 where
  pub count : length left ≡ length pairs * length pairs
  pub lanes : (d e : ℕ) → d < length pairs → e < length pairs
      → entry (all_posted pairs) d e ≡ entry (all_collected pairs) e d ++ slice_index_or left (d * length pairs + e) []

-- all of a desk's ends but what they know of the other end of each lane
abbrev pub kept : OutEnds × InEnds → (Place × List (List Letter) × List ℕ) × (Place × ℕ × List (List Letter))
kept p = ((p.0.place, p.0.posted, p.0.capacity), (p.1.place, p.1.cursor, p.1.collected))

-- the lists of a list of vectors
abbrev pub lists : {X A : Type 0} → List (Vec X A) → List (List X)
lists {X} {A} vs = map (λ (v : Vec X A). v.items) vs
