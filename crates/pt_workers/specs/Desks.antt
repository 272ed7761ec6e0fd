-- The desks of one node.
use Rattle.std.specs.Prelude.{◌≡◌, ℕ, ◌<◌, List, [], ◌∷◌, length, map, slice_index_or, slice_set, ⊤}
use Rattle.pt_signal.specs.declared.letter.Letter.{Letter}
use Rattle.pt_carrier.specs.Ends.{Place, OutEnds, InEnds}
use Rattle.pt_carrier.specs.Node.{IsNode, kept}
use Rattle.pt_signal.specs.declared.config.Config.{Config}
use Rattle.pt_shard.specs.ShardState.{ShardState}
use Rattle.pt_directory.specs.Seats.{DirectoryState}
use Rattle.pt_beginning.specs.Beginning.{IsBeginning, start_of}
use Rattle.pt_desk.specs.Sight.{Sight}
use Rattle.pt_desk.specs.DeskState.{DeskState, GoesOn, IsDesk, IsAccounted, place}

abbrev pub all_ends : List DeskState → List (OutEnds × InEnds)
all_ends desks = map (λ (d : DeskState). (d.outs, d.ins)) desks

abbrev pub all_shards : List DeskState → List ShardState
all_shards desks = map (λ (d : DeskState). d.shard) desks

-- all desks of one opening, or of one resumption, with these settings, each once and in order: no call of a desk
-- changes its settings, its place or what was before its journal
pub record AreDesksOf (config : Config) (desks : List DeskState) : Type 0 where
  pub some : 0 < length desks
  pub count : length desks ≡ config.desks
  pub node : IsNode (map place desks)
  pub configs : (d : ℕ) (x : DeskState) → d < length desks → (slice_index_or desks d x).shard.config ≡ config
  -- they have one directory
  pub directory : DirectoryState
  pub directories : (d : ℕ) (x : DeskState) → d < length desks → (slice_index_or desks d x).sight.directory ≡ directory
  -- what was before their journals is what one node left behind
  pub begun : IsBeginning config.start (start_of (all_shards desks))

abbrev pub AreDesks : List DeskState → Type 0
AreDesks desks = (config : Config) × AreDesksOf config desks

-- what a caller needs of what it does to one of the desks, so that all of them stay the desks of their node: the desk
-- keeps its place among the lanes, its settings, its directory and what was before its journal, as each call of a
-- desk does
abbrev pub IsStill : DeskState → DeskState → Type 0
IsStill old new =
    (place new ≡ place old) × (new.shard.config ≡ old.shard.config) × (new.sight.directory ≡ old.sight.directory)
    × (new.shard.start ≡ old.shard.start)

-- all of a desk but what its ends know of the other end of each lane
abbrev pub desk_kept : DeskState
    → ShardState × Sight × (Place × List (List Letter) × List ℕ) × (Place × ℕ × List (List Letter))
desk_kept d = (d.shard, d.sight, (kept (d.outs, d.ins)).0, (kept (d.outs, d.ins)).1)

-- what holds of every desk
abbrev pub AreWhole : List DeskState → Type 0
AreWhole desks = (d : ℕ) (x : DeskState) → d < length desks → IsDesk (slice_index_or desks d x)

-- as many shards as pairs of ends, and each has its accounts with those at its place
abbrev pub AreAccounted : List ShardState → List (OutEnds × InEnds) → Type 0
AreAccounted [] [] = ⊤
AreAccounted (s ∷ shards) (p ∷ pairs) = IsAccounted s p.0 p.1 × AreAccounted shards pairs
AreAccounted _ _ = ⊥

-- that was done to desk d, which goes on, and the others stayed
pub record OnDesk (d : ℕ) (Does : DeskState → DeskState → Type 0) (old new : List DeskState) : Type 0 where
  pub within : d < length old
  pub desk : DeskState
  pub does : Does (slice_index_or old d desk) desk
  pub goes_on : GoesOn (slice_index_or old d desk) desk
  pub others : new ≡ slice_set old d desk
