-- The ends of the lanes of a node look at each other.
use Rattle.std.specs.Prelude.{◌≡◌, ◌≢◌, ℕ, ◌<◌, ◌≤◌, ◌⊎◌, List, [], ◌++◌, length, map, slice_index_or}
use Rattle.pt_signal.specs.declared.letter.Letter.{Letter}
use Rattle.pt_desk.specs.DeskState.{DeskState, posted_to, collected_from}
use Rattle.pt_workers.specs.Desks.{desk_kept}

-- the end at desk e knows each letter that stands in the lane from desk d, whose end knows all that were collected
pub record MetAt (desks : List DeskState) (d e : ℕ) : Type 0 where
  pub whole : (x : DeskState)
      → posted_to (slice_index_or desks d x) e
      ≡ collected_from (slice_index_or desks e x) d ++ slice_index_or (slice_index_or desks e x).ins.known d []
  pub seen : (x : DeskState)
      → length (collected_from (slice_index_or desks e x) d) ≤ slice_index_or (slice_index_or desks d x).outs.seen e 0
  pub places : (x : DeskState) → 0 < slice_index_or (slice_index_or desks d x).outs.capacity e 0

abbrev pub AreMet : List DeskState → Type 0
AreMet desks = (d e : ℕ) → d < length desks → e < length desks → MetAt desks d e

-- the ends of the lane from desk d to desk e have looked at each other, and those of the other lanes know what they
-- knew
pub record MeetsAt (d e : ℕ) (old new : List DeskState) : Type 0 where
  pub kept : map desk_kept new ≡ map desk_kept old
  pub here : MetAt new d e
  pub known : (i k : ℕ) (x : DeskState) → (i ≢ d) ⊎ (k ≢ e)
      → slice_index_or (slice_index_or new k x).ins.known i [] ≡ slice_index_or (slice_index_or old k x).ins.known i []
  pub seen : (i k : ℕ) (x : DeskState) → (i ≢ d) ⊎ (k ≢ e)
      → slice_index_or (slice_index_or new i x).outs.seen k 0 ≡ slice_index_or (slice_index_or old i x).outs.seen k 0

-- all that was collected in the lane from desk d to desk e was posted, and the rest waits
abbrev pub HasLane : List DeskState → ℕ → ℕ → DeskState → Type 0
HasLane desks d e x =
    (waits : List Letter)
    × (posted_to (slice_index_or desks d x) e ≡ collected_from (slice_index_or desks e x) d ++ waits)

abbrev pub HaveLanes : List DeskState → Type 0
HaveLanes desks = (d e : ℕ) (x : DeskState) → d < length desks → e < length desks → HasLane desks d e x
