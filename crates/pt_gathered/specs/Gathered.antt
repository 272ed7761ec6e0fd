-- The desks of a node without their lanes, and the letters left over.
use Rattle.std.specs.Prelude.{◌≡◌, ℕ, ◌+◌, ◌*◌, ◌<◌, nat_lt, Bool, cond, List, [], ◌++◌, length, map, slice_index_or}
use Rattle.std.specs.Prelude.{Option, Some, None}
use Rattle.pt_signal.specs.declared.letter.Letter.{Letter}
use Rattle.pt_events.specs.History.{Start}
use Rattle.pt_events.specs.Journal.{Journals, posts, gots, Agrees}
use Rattle.pt_events.specs.Refusals.{RefusalsAreTrue}
use Rattle.pt_signal.specs.declared.config.Config.{Config}
use Rattle.pt_shard.specs.declared.loss.Loss.{Loss}
use Rattle.pt_shard.specs.ShardState.{ShardState}
use Rattle.pt_shard.specs.Outbox.{held_from}
use Rattle.pt_shard.specs.Fit.{IsFit}
use Rattle.pt_beginning.specs.Beginning.{IsBeginning, start_of}

-- the lane from desk d to desk e stands at d * desks + e
pub record GatheredState : Type 0 where
  pub config : Config
  pub shards : List ShardState
  pub lanes : List (List Letter)

-- what was before a node: the state that it was opened with, in which there is nobody, or that it goes on from
abbrev pub begins : GatheredState → Start
begins g = start_of g.shards

abbrev pub journal_at : List ShardState → Journals
journal_at shards d = slice_index_or (map (λ (s : ShardState). s.journal) shards) d []

abbrev pub box_at : List ShardState → ℕ → ℕ → List Letter
box_at shards d e = slice_index_or (slice_index_or (map (λ (s : ShardState). s.outbox) shards) d []) e []

abbrev pub hold_at : List ShardState → ℕ → Option Letter
hold_at shards e = slice_index_or (map (λ (s : ShardState). s.hold) shards) e None

-- what is left over from desk d to desk e: the letter in the hold, those in the lane, those that were not posted
abbrev pub over_in : List ShardState → List (List Letter) → ℕ → ℕ → List Letter
over_in shards lanes d e =
    held_from d (hold_at shards e) ++ slice_index_or lanes (d * length shards + e) [] ++ box_at shards d e

abbrev pub are_both : Bool → Bool → List Letter → List Letter
are_both a b over = cond a (cond b over []) []

abbrev pub over : GatheredState → ℕ → ℕ → List Letter
over g d e = are_both (nat_lt d (length g.shards)) (nat_lt e (length g.shards)) (over_in g.shards g.lanes d e)

abbrev pub journals : GatheredState → Journals
journals g = journal_at g.shards

-- what a desk lost that nobody was told of
abbrev pub lost_on : Option ShardState → List Loss
lost_on None = []
lost_on (Some s) = s.lost

-- the desk number d of the node, without its lanes
pub record IsShardOf (config : Config) (d : ℕ) (s : ShardState) : Type 0 where
  pub number : s.number ≡ d
  pub config_is : s.config ≡ config
  pub fit : IsFit s

pub record IsGathered (g : GatheredState) : Type 0 where
  pub some : 0 < length g.shards
  pub desks : length g.shards ≡ g.config.desks
  pub lanes : length g.lanes ≡ length g.shards * length g.shards
  pub shards : (d : ℕ) (x : ShardState) → d < length g.shards → IsShardOf g.config d (slice_index_or g.shards d x)
  pub agree : (d e : ℕ) → d < length g.shards → e < length g.shards
      → Agrees (posts (begins g) (journals g d) e) (gots (journals g e) d) (over_in g.shards g.lanes d e)
  pub refusals : RefusalsAreTrue (begins g) (journals g)
  pub begun : IsBeginning g.config.start (begins g)
